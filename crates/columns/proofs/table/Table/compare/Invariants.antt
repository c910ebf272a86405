use Rattle.std.proofs.Common.{◌≡◌, drop, get_or, []}
use Rattle.std.specs.Cmp.Lexicographic.{slice_cmp}
use Rattle.std.specs.Ordering.{int_cmp}
use Rattle.columns.proofs.table.Table.compare.Given as goal

-- the columns so far are equal
abbrev pub invariant-loop-i : goal.invariant-loop-i
invariant-loop-i l =
    slice_cmp int_cmp (drop l.i (get_or l.self l.number [])) (drop l.i (get_or l.other l.place []))
    ≡ slice_cmp int_cmp (get_or l.self l.number []) (get_or l.other l.place [])
