use Rattle.std.proofs.Common.{◌≡◌, ◌++◌, take}
use Rattle.reducer.specs.Kinds.{positive_rows}
use Rattle.reducer.proofs.distinct.put_positive.Given as goal

-- the rows so far
abbrev pub invariant-loop-i : goal.invariant-loop-i
invariant-loop-i g l = l.entries ≡ l.initial.entries ++ positive_rows (take l.i (g.C.RowCounts.entries l.rows))
