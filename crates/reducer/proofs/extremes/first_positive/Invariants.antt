use Rattle.std.proofs.Common.{◌≡◌, false}
use Rattle.std.specs.List.{AllWithin}
use Rattle.reducer.specs.Kinds.{is_positive}
use Rattle.reducer.proofs.extremes.first_positive.Given as goal

-- no count so far is above 0
abbrev pub invariant-loop-i : goal.invariant-loop-i
invariant-loop-i g l = AllWithin (λ e. is_positive e ≡ false) (g.C.RowCounts.entries l.rows) 0 l.i
