use Rattle.std.proofs.Common.{◌≡◌, take}
use Rattle.batch.specs.Intervals.{passed_updates}
use Rattle.operator.proofs.arrangement.pending.passed_copies.Given as goal

-- of the updates so far, those that are passed are copied
abbrev pub invariant-loop-update : goal.invariant-loop-update
invariant-loop-update g l = l.out.items ≡ passed_updates g.T.PartialOrder.times l.upper (take l.update-index l.updates)
