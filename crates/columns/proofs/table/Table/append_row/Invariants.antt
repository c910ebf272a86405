use Rattle.std.proofs.Common.{◌≡◌, ◌++◌}
use Rattle.columns.specs.Tables.{row_at}
use Rattle.columns.proofs.table.Table.append_row.Given as goal

-- the columns so far are appended
abbrev pub invariant-loop-i : goal.invariant-loop-i
invariant-loop-i l = l.list.items ≡ l.fn.list.items ++ row_at l.self-inside.columns.items l.number l.i
