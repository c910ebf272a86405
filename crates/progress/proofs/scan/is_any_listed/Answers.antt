use Rattle.std.proofs.Common.{◌≡◌, false, ◌||◌, ap, sym, ◌∙◌}
use Rattle.std.proofs.lemmas.Map.Iter.{rest_more, rest_all}
use Rattle.std.specs.Map.Iter.{deref_pair}
use Rattle.lattice.specs.Frontiers.{is_beyond}
use Rattle.progress.specs.CountLists.{listed}
use Rattle.progress.proofs.CountListLemmas.{listed_first}
use Rattle.progress.proofs.scan.is_any_listed.Goals as goal

pub loop-entry-init : goal.loop-entry-init
loop-entry-init g c =
    ap (λ es. is_beyond g.T.PartialOrder.times (listed es) c.args.t.now) c.into_iter-entry-iterator.ensures.into_iter_gives.0

pub loop-entry-preserved : goal.loop-entry-preserved
loop-entry-preserved g c =
    let times = g.T.PartialOrder.times in
    let t = c.args.t.now in
    let x = c.in-Some.entry.now in
    let rest = c.next.new.self in
    let first = rest_more deref_pair c.loop-entry.entry-iterator rest c.next.result (c.in-Some.entry, c.in-Some.field-0-1) c.in-Some.is c.next.ensures.steps in
    let none : times.below x t ≡ false = sym c.less_equal.ensures ∙ c.if-less_equal.false in
    sym (ap (λ es. is_beyond times (listed es) t) first ∙ (listed_first times x c.in-Some.field-0-1.now (listed rest) t ∙ ap (λ b. b || is_beyond times (listed rest) t) none))
    ∙ c.loop-entry.invariant

pub returns : goal.returns
returns g c =
    let none = rest_all deref_pair c.loop-entry.entry-iterator c.next.new.self c.next.result c.in-None.is c.next.ensures.steps in
    sym (ap (λ es. is_beyond g.T.PartialOrder.times (listed es) c.args.t.now) none) ∙ c.loop-entry.invariant
