use Rattle.std.proofs.Common.{◌≡◌, take}
use Rattle.key_history.specs.Replays.{moved_to}
use Rattle.key_history.proofs.replay.moved.Given as goal

abbrev pub invariant-loop-update : goal.invariant-loop-update
invariant-loop-update g l = l.out.items ≡ moved_to g.T.PartialOrder.times l.meet (take l.update-index l.updates)
