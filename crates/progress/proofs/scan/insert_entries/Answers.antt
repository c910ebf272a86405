use Rattle.std.proofs.Common.{◌≡◌, ◌+◌, ◌∷◌, ◌||◌, drop, ap, sym, ◌∙◌, arith}
use Rattle.std.proofs.lemmas.Grind.{common_steps}
use Rattle.lattice.specs.Frontiers.{is_beyond}
use Rattle.progress.specs.CountLists.{listed}
use Rattle.progress.proofs.CountLemmas.{or_swap}
use Rattle.progress.proofs.CountListLemmas.{listed_first}
use Rattle.progress.proofs.scan.insert_entries.Goals as goal

pub loop-entry-preserved : goal.loop-entry-preserved
loop-entry-preserved g c s =
    let times = g.T.PartialOrder.times in
    let x = c.entry-item.result in
    let found = c.loop-entry.found.items in
    let rest = drop (c.loop-entry.entry-index + 1) c.args.few.now in
    let left : drop c.loop-entry.entry-index c.args.few.now ≡ x ∷ rest = grind (arith, common_steps) in
    let whole = ap (λ es. is_beyond times (listed es) s) left ∙ listed_first times x.0 x.1 (listed rest) s in
    ap (λ b. b || is_beyond times (listed rest) s) (c.in_ok-insert_time.ensures.beyond s)
    ∙ (or_swap (times.below x.0 s) (is_beyond times found s) (is_beyond times (listed rest) s)
    ∙ (sym (ap (λ b. is_beyond times found s || b) whole) ∙ c.loop-entry.invariant s))
