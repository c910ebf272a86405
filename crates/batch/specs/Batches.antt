-- Batches: updates in an order that brings the rows of a key together (McSherry et al., Shared
-- Arrangements, VLDB 2020).
use Rattle.std.specs.Prelude.{◌≢◌, List, pos}
use Rattle.std.specs.List.{AllByRecursion}
use Rattle.std.specs.List.Sorted.{IsStrictlySortedBy}
use Rattle.std.specs.declared.cmp.Ordering.{Ordering}
use Rattle.update.specs.declared.change.Update.{Update}
pub use Rattle.columns.specs.Keys.{by_row_then_time, begins_with, at_key, AllBefore, NoneBefore, AllAfter, NoneAfter}

-- one update for each row and time, in order of row, then time, and none with difference 0
pub record IsSealed {T : Type 0} (cmp : T → T → Ordering) (us : List (Update T)) : Type 0 where
  pub ascending : IsStrictlySortedBy (by_row_then_time cmp) us
  pub nonzero : AllByRecursion (λ u. u.diff ≢ pos 0) us
