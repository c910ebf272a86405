use Rattle.std.proofs.Common.{◌≡◌, take}
use Rattle.gathered.proofs.gathered.Gathered.copies.Given as goal

-- copies of the updates so far
abbrev pub invariant-loop-update : goal.invariant-loop-update
invariant-loop-update g l = l.copies.items ≡ take l.update-index l.update-items
