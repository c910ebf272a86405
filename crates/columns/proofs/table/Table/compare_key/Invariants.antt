use Rattle.std.proofs.Common.{◌≡◌, drop}
use Rattle.std.specs.Cmp.Lexicographic.{slice_cmp}
use Rattle.std.specs.Ordering.{int_cmp}
use Rattle.columns.specs.Tables.{row_at}
use Rattle.columns.proofs.table.Table.compare_key.Given as goal

-- the columns so far are those of the key
abbrev pub invariant-loop-i : goal.invariant-loop-i
invariant-loop-i l =
    slice_cmp int_cmp (drop l.i (row_at l.self-inside.columns.items l.number l.width)) (drop l.i l.key)
    ≡ slice_cmp int_cmp (row_at l.self-inside.columns.items l.number l.width) l.key
