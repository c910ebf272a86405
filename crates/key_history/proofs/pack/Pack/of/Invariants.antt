use Rattle.std.proofs.Common.{◌≡◌, take}
use Rattle.key_history.proofs.pack.Pack.of.Given as goal

-- the updates so far are copied
abbrev pub invariant-loop-update : goal.invariant-loop-update
invariant-loop-update g l = l.pack ≡ take l.update-index l.updates
