use Rattle.std.proofs.Common.{◌≡◌, take, length}
use Rattle.columns.specs.Tables.{row_at}
use Rattle.columns.proofs.table.Table.row.Given as goal

-- the values so far are those of the columns so far
abbrev pub invariant-loop-i : goal.invariant-loop-i
invariant-loop-i l = record {
  room : length l.values ≡ 8;
  made : take l.i l.values ≡ row_at l.self-inside.columns.items l.number l.i;
}
