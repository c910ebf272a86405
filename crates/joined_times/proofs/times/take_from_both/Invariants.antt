use Rattle.std.proofs.Common.{◌≤◌, ◌+◌, ◌-◌, length, drop}
use Rattle.joined_times.specs.Additions.{IsMerging}
use Rattle.joined_times.proofs.times.take_from_both.Given as goal

abbrev pub invariant-loop-at : goal.invariant-loop-at
invariant-loop-at g l = record {
  left : l.at.left ≤ length l.xs;
  right : l.at.right ≤ length l.ys;
  merging : IsMerging g.T.Ord.cmp l.xs l.ys l.out.items (drop l.at.left l.xs) (drop l.at.right l.ys);
}

-- the number of times that are still to be read decreases
abbrev pub decreases-loop-at : goal.decreases-loop-at
decreases-loop-at g l = (length l.xs + length l.ys) - (l.at.left + l.at.right)
