use Rattle.std.proofs.Common.{◌≡◌, false, length}
use Rattle.std.specs.List.{AllWithin}
use Rattle.reducer.specs.Kinds.{is_positive}
use Rattle.reducer.proofs.extremes.last_positive.Given as goal

-- no count from here on is above 0
abbrev pub invariant-loop-i : goal.invariant-loop-i
invariant-loop-i g l = AllWithin (λ e. is_positive e ≡ false) (g.C.RowCounts.entries l.rows) l.i (length (g.C.RowCounts.entries l.rows))
