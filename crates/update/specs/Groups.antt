-- How consolidation reads a list in which the updates of one row and time are neighbours, a group.
-- Each group becomes one update. Any order by row and time, whichever comes first, makes such a
-- list.
use Rattle.std.specs.Int.{w64}
use Rattle.std.specs.Cmp.{IsTotalOrder}
use Rattle.std.specs.List.{AllByRecursion}
use Rattle.std.specs.Prelude.{◌≡◌, ℕ, ◌<◌, Bool, FitsSigned, IsTrue, cond, ◌&&◌, List, [], ◌∷◌, length, slice_index_or, ℤ, pos, ◌+ℤ◌, flat_map}
use Rattle.std.specs.Ordering.{int_eq, is_eq}
use Rattle.std.specs.declared.cmp.Ordering.{Ordering}
use Rattle.update.specs.declared.change.Update.{Update}
use Rattle.update.specs.Bags.{same_row}

-- the updates have the same row and time
abbrev pub is_same : {T : Type 0} → (T → T → Ordering) → Update T → Update T → Bool
is_same cmp u v = is_eq (cmp u.time v.time) && same_row u.row v.row

-- what lies between two updates of one row and time is of that row and time too
abbrev pub IsGrouped : {T : Type 0} → (T → T → Ordering) → List (Update T) → Type 0
IsGrouped {T} cmp us = (i j k : ℕ) (d : Update T) → i < j → j < k → k < length us
    → IsTrue (is_same cmp (slice_index_or us i d) (slice_index_or us k d))
    → IsTrue (is_same cmp (slice_index_or us i d) (slice_index_or us j d))

-- an order of updates in which exactly those of one row and time tie
pub record OrdersGroups {T : Type 0} (cmp : T → T → Ordering) (order : Update T → Update T → Ordering) : Type 0 where
  pub total : IsTotalOrder order
  pub ties : (u v : Update T) → is_eq (order u v) ≡ is_same cmp u v

-- a group: its first update, and the total of its diffs
pub record Group (T : Type 0) : Type 0 where
  pub first : Update T
  pub total : ℤ

-- the groups of a list, if u is the first update of the current group and n is its total so far
abbrev pub groups_of : {T : Type 0} → (T → T → Ordering) → Update T → ℤ → List (Update T) → List (Group T)
groups_of cmp u n [] = record { first = u; total = n } ∷ []
groups_of cmp u n (v ∷ vs) =
    cond (is_same cmp u v) (groups_of cmp u (n +ℤ v.diff) vs)
    (record { first = u; total = n } ∷ groups_of cmp v v.diff vs)

-- the one update of a group, or none if its total is 0
abbrev pub group_sum : {T : Type 0} → Update T → ℤ → List (Update T)
group_sum u n = cond (int_eq n (pos 0)) [] (record u { diff = n } ∷ [])

-- one update for each group, none for a total of 0
abbrev pub group_sums : {T : Type 0} → List (Group T) → List (Update T)
group_sums rs = flat_map (λ r. group_sum r.first r.total) rs

-- the groups of a whole list
abbrev pub groups_from : {T : Type 0} → (T → T → Ordering) → List (Update T) → List (Group T)
groups_from cmp [] = []
groups_from cmp (u ∷ us) = groups_of cmp u u.diff us

-- each group's total is a 64-bit number
abbrev pub AllFit : {T : Type 0} → List (Group T) → Type 0
AllFit rs = AllByRecursion (λ r. FitsSigned w64 r.total) rs
