-- Lists of updates, and what they sum to at a time (McSherry et al., Differential Dataflow, CIDR
-- 2013).
use Rattle.std.specs.Prelude.{◌≡◌, ◌≢◌, ℕ, Bool, false, ◌&&◌, if◌then◌else◌, List, [], ◌∷◌, map, filter, ℤ, pos, FitsSigned, unsigned_abs, sum_by, ⊤}
use Rattle.std.specs.Int.{w64}
use Rattle.std.specs.List.{AllByRecursion, list_any}
use Rattle.std.specs.List.Sorted.{IsStrictlySortedBy}
use Rattle.std.specs.Cmp.Lexicographic.{slice_cmp}
use Rattle.std.specs.Ordering.{int_cmp, ordering_then}
use Rattle.std.specs.declared.cmp.Ordering.{Ordering}
use Rattle.update.specs.declared.change.Update.{Update}
use Rattle.update.specs.Bags.{total_by, same_row, Entry}
use Rattle.lattice.specs.Times.{Times}

-- the row of an update and its diff, without the time
abbrev pub entry : {T : Type 0} → Update T → Entry
entry u = record { row = u.row; count = u.diff }

-- the sum of a list at t: the rows and diffs of its updates at or before t
abbrev pub as_of : {T : Type 0} → Times T → T → List (Update T) → List Entry
as_of times t us = map entry (filter (λ u. times.below u.time t) us)

-- the total of the diffs of the updates whose row and time pass a test
abbrev pub total_where : {T : Type 0} → (List ℤ → T → Bool) → List (Update T) → ℤ
total_where p us = total_by (λ u. if p u.row u.time then u.diff else pos 0) us

-- the total of the diffs of a row at exactly the time t
abbrev pub total_at : {T : Type 0} → Times T → List ℤ → T → List (Update T) → ℤ
total_at times row t us = total_where (λ r s. same_row r row && (times.below s t && times.below t s)) us

-- the total of some row at some time is no 64-bit number
abbrev pub HasLargeTotal : {T : Type 0} → Times T → List (Update T) → Type 0
HasLargeTotal {T} times us = (row : List ℤ) × (t : T) × (FitsSigned w64 (total_at times row t us) → ⊥)

module _ {T : Type 0} (times : Times T) where
  -- the two updates have the same row and the same time
  abbrev pub is_doubled : Update T → Update T → Bool
  is_doubled u v = (times.below u.time v.time && times.below v.time u.time) && same_row u.row v.row

  -- no two of the updates have the same row and the same time
  abbrev pub AreApart : List (Update T) → Type 0
  AreApart [] = ⊤
  AreApart (u ∷ us) = (list_any (is_doubled u) us ≡ false) × AreApart us

-- the order of consolidated lists: by time, then by row
abbrev pub by_time_then_row : {T : Type 0} → (T → T → Ordering) → Update T → Update T → Ordering
by_time_then_row cmp u v = ordering_then (cmp u.time v.time) (slice_cmp int_cmp u.row v.row)

-- one update for each row and time, in order of time, then row, and none with difference 0
pub record IsConsolidated {T : Type 0} (cmp : T → T → Ordering) (us : List (Update T)) : Type 0 where
  pub ascending : IsStrictlySortedBy (by_time_then_row cmp) us
  pub nonzero : AllByRecursion (λ u. u.diff ≢ pos 0) us

-- the size of a list: the sum of its absolute diffs
abbrev pub size : {T : Type 0} → List (Update T) → ℕ
size us = sum_by (λ u. unsigned_abs u.diff) us
