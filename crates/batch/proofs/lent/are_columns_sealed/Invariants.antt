use Rattle.std.proofs.Common.{◌≡◌, ◌≢◌, ℕ, suc, ◌<◌, get_or, pos, FitsSigned, w64}
use Rattle.std.specs.List.{AllWithin}
use Rattle.std.specs.declared.cmp.Ordering.TheVariants.{Less}
use Rattle.update.specs.declared.change.Update.{Update}
use Rattle.batch.specs.Batches.{by_row_then_time}
use Rattle.batch.proofs.lent.are_columns_sealed.Given as goal

-- the first i updates are sealed
abbrev pub invariant-loop-i : goal.invariant-loop-i
invariant-loop-i g l = record {
  fits : AllWithin (λ (u : Update g.row.T.Denot). FitsSigned w64 u.diff) l.columns 0 l.i;
  nonzero : AllWithin (λ (u : Update g.row.T.Denot). u.diff ≢ pos 0) l.columns 0 l.i;
  behind : (k : ℕ) (d : Update g.row.T.Denot) → suc k < l.i → by_row_then_time g.T.Ord.cmp (get_or l.columns k d) (get_or l.columns (suc k) d) ≡ Less;
}
