use Rattle.std.proofs.Common.{take, IsTrue}
use Rattle.std.specs.List.{list_all}
use Rattle.batch.proofs.seal.known_times.Given as goal

-- the times so far are at or after the least one
abbrev pub invariant-loop-update : goal.invariant-loop-update
invariant-loop-update g l = IsTrue (list_all (λ u. g.T.PartialOrder.times.below g.T.PartialOrder.times.least u.time) (take l.update-index l.updates))
