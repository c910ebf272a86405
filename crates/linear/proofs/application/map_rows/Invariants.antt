use Rattle.std.proofs.Common.{◌≡◌, ◌++◌, map, take, drop}
use Rattle.linear.specs.Applied.{mapped_update}
use Rattle.linear.proofs.application.map_rows.Given as goal

-- the updates so far are mapped, and the others are unchanged
abbrev pub invariant-loop-update : goal.invariant-loop-update
invariant-loop-update g l = l.updates ≡ map (mapped_update l.items) (take l.update-index l.initial.updates) ++ drop l.update-index l.initial.updates
