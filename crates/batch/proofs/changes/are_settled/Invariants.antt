use Rattle.std.proofs.Common.{◌≡◌, ◌≢◌, ℕ, suc, ◌<◌, get_or, pos, FitsSigned, w64}
use Rattle.std.specs.List.{AllWithin}
use Rattle.std.specs.declared.cmp.Ordering.TheVariants.{Less}
use Rattle.batch.specs.declared.changes.Change.{Change}
use Rattle.batch.proofs.changes.are_settled.Given as goal

-- the first i changes are sealed
abbrev pub invariant-loop-i : goal.invariant-loop-i
invariant-loop-i g l = record {
  fits : AllWithin (λ (c : Change g.row.T.Denot). FitsSigned w64 c.diff) l.changes 0 l.i;
  nonzero : AllWithin (λ (c : Change g.row.T.Denot). c.diff ≢ pos 0) l.changes 0 l.i;
  behind : (k : ℕ) (d : Change g.row.T.Denot) → suc k < l.i → g.T.Ord.cmp (get_or l.changes k d).time (get_or l.changes (suc k) d).time ≡ Less;
}
