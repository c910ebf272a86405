use Rattle.std.proofs.Common.{◌≡◌, ◌-◌, ◌≤◌, take, length}
use Rattle.std.specs.List.{All}
use Rattle.columns.proofs.table.widen.Given as goal

-- each column is long enough, and the first ones are as they were
abbrev pub invariant-loop-alloc : goal.invariant-loop-alloc
invariant-loop-alloc l = record {
  long : All (λ column. l.height ≤ length column) l.columns.items;
  same : take (length l.fn.columns.items) l.columns.items ≡ l.fn.columns.items;
  more : length l.fn.columns.items ≤ length l.columns.items;
}

abbrev pub decreases-loop-alloc : goal.decreases-loop-alloc
decreases-loop-alloc l = l.width - length l.columns.items
