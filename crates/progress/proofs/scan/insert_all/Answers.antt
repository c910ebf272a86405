use Rattle.std.proofs.Common.{◌≡◌, ◌+◌, ◌∷◌, ◌||◌, drop, ap, ◌∙◌, arith}
use Rattle.std.proofs.lemmas.Grind.{common_steps}
use Rattle.lattice.specs.Frontiers.{is_beyond}
use Rattle.progress.proofs.CountLemmas.{or_swap}
use Rattle.progress.proofs.scan.insert_all.Goals as goal

pub loop-t-preserved : goal.loop-t-preserved
loop-t-preserved g c s =
    let times = g.T.PartialOrder.times in
    let x = c.t-item.result in
    let found = c.loop-t.found.items in
    let rest = drop (c.loop-t.t-index + 1) c.args.times.now in
    let left : drop c.loop-t.t-index c.args.times.now ≡ x ∷ rest = grind (arith, common_steps) in
    let so_far = rw left at (c.loop-t.invariant s) in
    ap (λ b. b || is_beyond times rest s) (c.in_ok-insert_time.ensures.beyond s)
    ∙ (or_swap (times.below x s) (is_beyond times found s) (is_beyond times rest s) ∙ so_far)
