use Rattle.std.proofs.Common.{◌≡◌, ◌≤◌, ◌-◌, ◌++◌, take, slice_index_or}
use Rattle.update.specs.Bags.{Entry}
use Rattle.plan.specs.Operators.{join_output}
use Rattle.oracle.specs.Keys.{IsKeyRange}
use Rattle.oracle.proofs.join.put_joined.Given as goal

-- the pairs of the rows so far; and the range is that of the last of these rows
abbrev pub invariant-loop-i : goal.invariant-loop-i
invariant-loop-i l = record {
  pairs : l.entries ≡ l.initial.entries ++ join_output l.k (take l.i l.left) l.right;
  range : (d : Entry) → 1 ≤ l.i → IsKeyRange l.k (take l.k (slice_index_or l.left (l.i - 1) d).row) l.right l.range.0 l.range.1;
}
