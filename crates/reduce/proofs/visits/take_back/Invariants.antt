use Rattle.std.proofs.Common.{◌≡◌, ◌≤◌, length, take}
use Rattle.reduce.specs.Visits.{all_taken_back}
use Rattle.reduce.proofs.visits.take_back.Given as goal

-- what was appended for the changes from here on is taken back
abbrev pub invariant-loop-i : goal.invariant-loop-i
invariant-loop-i g l = record {
  within : l.i ≤ length l.changes;
  size : length l.histories.items ≡ length l.fn.histories.items;
  left : all_taken_back (take l.i l.changes) l.histories.items ≡ all_taken_back l.changes l.fn.histories.items;
}

abbrev pub decreases-loop-i : goal.decreases-loop-i
decreases-loop-i g l = l.i
