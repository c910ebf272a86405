-- Tallies: the different rows of a key, each with a count that is changed in place and set back.
use Rattle.std.specs.Prelude.{◌≡◌, ℕ, zero, suc, List, [], ◌∷◌, ℤ, length}
use Rattle.std.specs.List.Sorted.{IsStrictlySortedBy}
use Rattle.std.specs.Cmp.Lexicographic.{slice_cmp}
use Rattle.std.specs.Ordering.{int_cmp}
use Rattle.update.specs.Bags.{Entry, entry_of}
use Rattle.reducer.specs.declared.tally.Undone.{Undone}

-- each row with its count
abbrev pub tallied : List (List ℤ) → List ℤ → List Entry
tallied [] counts = []
tallied (row ∷ rows) [] = []
tallied (row ∷ rows) (count ∷ counts) = entry_of row count ∷ tallied rows counts

-- a count for each row, and the rows in order, each once
pub record IsTally (rows : List (List ℤ)) (counts : List ℤ) : Type 0 where
  pub lengths : length counts ≡ length rows
  pub ascending : IsStrictlySortedBy (slice_cmp int_cmp) rows

-- the entries in order of rows, each row once
abbrev pub AreInOrder : List Entry → Type 0
AreInOrder entries = IsStrictlySortedBy (λ a b. slice_cmp int_cmp a.row b.row) entries

-- the entries with this count at a place; a place beyond them has none
abbrev pub set_count : ℕ → ℤ → List Entry → List Entry
set_count place count [] = []
set_count zero count (e ∷ entries) = entry_of e.row count ∷ entries
set_count (suc place) count (e ∷ entries) = e ∷ set_count place count entries

-- the entries with what was noted set back, the latest first
abbrev pub undone : List Undone → List Entry → List Entry
undone [] entries = entries
undone (u ∷ noted) entries = set_count u.place u.count (undone noted entries)
