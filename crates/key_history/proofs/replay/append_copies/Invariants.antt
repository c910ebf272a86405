use Rattle.std.proofs.Common.{◌≡◌, ◌++◌, take}
use Rattle.key_history.proofs.replay.append_copies.Given as goal

abbrev pub invariant-loop-update : goal.invariant-loop-update
invariant-loop-update g l = l.list.items ≡ l.fn.list.items ++ take l.update-index l.more
