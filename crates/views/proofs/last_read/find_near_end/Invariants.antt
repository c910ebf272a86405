use Rattle.std.proofs.Common.{◌-◌, ◌≤◌, length}
use Rattle.views.proofs.last_read.find_near_end.Given as goal

-- the places that were not looked at come before those that were
abbrev pub invariant-loop-place : goal.invariant-loop-place
invariant-loop-place g l = l.place ≤ length l.arrived

abbrev pub decreases-loop-place : goal.decreases-loop-place
decreases-loop-place g l = l.place - l.first
