use Rattle.std.proofs.Common.{◌≡◌, ◌&&◌, not, take}
use Rattle.std.specs.List.{filter}
use Rattle.correction.proofs.evaluation.between.Given as goal

abbrev pub invariant-loop-update : goal.invariant-loop-update
invariant-loop-update g l = l.list.items ≡ filter (λ u. g.T.PartialOrder.times.below u.time l.upto && not (g.T.PartialOrder.times.below u.time l.after)) (take l.update-index l.updates)
