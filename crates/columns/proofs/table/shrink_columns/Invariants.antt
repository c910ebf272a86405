use Rattle.std.proofs.Common.{◌≡◌}
use Rattle.columns.proofs.table.shrink_columns.Given as goal

-- the columns are as they were
abbrev pub invariant-loop-i : goal.invariant-loop-i
invariant-loop-i l = l.columns.items ≡ l.fn.columns.items
