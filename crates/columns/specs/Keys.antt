-- Updates in an order that brings the rows of a key together, and how a reader walks through them:
-- from one update on, past all that come before a key, or past the key as well.
use Rattle.std.specs.Prelude.{◌≡◌, ◌≢◌, Bool, cond, List, ℤ, length, take}
use Rattle.std.specs.List.{All}
use Rattle.std.specs.Cmp.Lexicographic.{slice_cmp}
use Rattle.std.specs.Ordering.{int_cmp, is_lt, is_le, ordering_then}
use Rattle.std.specs.declared.cmp.Ordering.{Ordering}
use Rattle.std.specs.declared.cmp.Ordering.TheVariants.{Less, Greater}
use Rattle.update.specs.declared.change.Update.{Update}
use Rattle.update.specs.Bags.{same_row}

-- the order of sorted updates: by row, then by time
abbrev pub by_row_then_time : {T : Type 0} → (T → T → Ordering) → Update T → Update T → Ordering
by_row_then_time cmp u v = ordering_then (slice_cmp int_cmp u.row v.row) (cmp u.time v.time)

-- the update's row begins with the columns of the key
abbrev pub begins_with : {T : Type 0} → List ℤ → Update T → Bool
begins_with key u = same_row (take (length key) u.row) key

-- compares the beginning of a row, cut to the length of the key, with the key
abbrev pub row_at_key : List ℤ → List ℤ → Ordering
row_at_key key row = slice_cmp int_cmp (take (length key) row) key

-- compares the beginning of the update's row, cut to the length of the key, with the key
abbrev pub at_key : {T : Type 0} → List ℤ → Update T → Ordering
at_key key u = row_at_key key u.row

-- each update comes before the rows of the key
abbrev pub AllBefore : {T : Type 0} → List ℤ → List (Update T) → Type 0
AllBefore key us = All (λ u. at_key key u ≡ Less) us

-- no update comes before the rows of the key
abbrev pub NoneBefore : {T : Type 0} → List ℤ → List (Update T) → Type 0
NoneBefore key us = All (λ u. at_key key u ≢ Less) us

-- each update comes after the rows of the key
abbrev pub AllAfter : {T : Type 0} → List ℤ → List (Update T) → Type 0
AllAfter key us = All (λ u. at_key key u ≡ Greater) us

-- no update comes after the rows of the key
abbrev pub NoneAfter : {T : Type 0} → List ℤ → List (Update T) → Type 0
NoneAfter key us = All (λ u. at_key key u ≢ Greater) us

-- the row comes before the rows of the key, or is one of them if these are to be left behind too
abbrev pub is_row_left_behind : List ℤ → Bool → List ℤ → Bool
is_row_left_behind key through row = cond through (is_le (row_at_key key row)) (is_lt (row_at_key key row))

-- the update's row does
abbrev pub is_left_behind : {T : Type 0} → List ℤ → Bool → Update T → Bool
is_left_behind key through u = is_row_left_behind key through u.row
