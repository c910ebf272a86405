use Rattle.std.proofs.Common.{◌≡◌, Bool, true, false, ◌||◌, refl, ap, sym, ◌∙◌}
use Rattle.std.proofs.lemmas.Map.Iter.{rest_more, rest_all}
use Rattle.std.specs.Map.Iter.{deref_pair}
use Rattle.lattice.specs.Frontiers.{is_beyond}
use Rattle.progress.specs.CountLists.{listed}
use Rattle.progress.proofs.CountLemmas.{or_swap}
use Rattle.progress.proofs.CountListLemmas.{listed_first}
use Rattle.progress.proofs.scan.insert_listed.Goals as goal

or_false : (b : Bool) → (b || false) ≡ b
or_false true = refl
or_false false = refl

pub loop-entry-init : goal.loop-entry-init
loop-entry-init g c s =
    ap (λ es. is_beyond g.T.PartialOrder.times c.args.found.now.items s || is_beyond g.T.PartialOrder.times (listed es) s) c.into_iter-entry-iterator.ensures.into_iter_gives.0

pub loop-entry-preserved : goal.loop-entry-preserved
loop-entry-preserved g c s =
    let times = g.T.PartialOrder.times in
    let x = c.in-Some.entry.now in
    let rest = c.next.new.self in
    let found = c.loop-entry.found.items in
    let first = rest_more deref_pair c.loop-entry.entry-iterator rest c.next.result (c.in-Some.entry, c.in-Some.field-0-1) c.in-Some.is c.next.ensures.steps in
    let whole = ap (λ es. is_beyond times (listed es) s) first ∙ listed_first times x c.in-Some.field-0-1.now (listed rest) s in
    ap (λ b. b || is_beyond times (listed rest) s) (c.in_ok-insert_time.ensures.beyond s)
    ∙ (or_swap (times.below x s) (is_beyond times found s) (is_beyond times (listed rest) s)
    ∙ (sym (ap (λ b. is_beyond times found s || b) whole) ∙ c.loop-entry.invariant s))

pub returns-clause-beyond : goal.returns-clause-beyond
returns-clause-beyond g c s =
    let times = g.T.PartialOrder.times in
    let found = c.loop-entry.found.items in
    let none = rest_all deref_pair c.loop-entry.entry-iterator c.next.new.self c.next.result c.in-None.is c.next.ensures.steps in
    sym (or_false (is_beyond times found s)) ∙ (sym (ap (λ es. is_beyond times found s || is_beyond times (listed es) s) none) ∙ c.loop-entry.invariant s)
