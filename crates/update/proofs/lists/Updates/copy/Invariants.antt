use Rattle.std.proofs.Common.{◌≡◌, take}
use Rattle.update.proofs.lists.Updates.copy.Given as goal

-- the updates so far are copied
abbrev pub invariant-loop-update : goal.invariant-loop-update
invariant-loop-update g l = l.items.items ≡ take l.update-index l.update-items
