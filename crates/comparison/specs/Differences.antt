-- What changed between two bags, and how it is written.
use Rattle.std.specs.Prelude.{◌≢◌, ◌↔◌, ◌⊎◌, ℕ, Bool, not, ◌&&◌, if◌then◌else◌, List, [], ◌++◌, ℤ, pos, map, codes, decimal}
use Rattle.std.specs.List.{Contains, count_by, flat_map}
use Rattle.std.specs.List.Sorted.{IsStrictlySortedBy}
use Rattle.std.specs.Cmp.Lexicographic.{slice_cmp}
use Rattle.std.specs.Ordering.{int_cmp, int_eq}
use Rattle.update.specs.Bags.{Entry, entry_of, count_of}
use Rattle.update.specs.Text.{entry_text}
use Rattle.comparison.specs.declared.change.Change.{Change}

-- the rows that have a weight in one of the bags, each once, in order
pub record AreRowsOfEither (before after : List Entry) (rows : List (List ℤ)) : Type 0 where
  pub ascending : IsStrictlySortedBy (slice_cmp int_cmp) rows
  pub each : (row : List ℤ)
      → Contains rows row ↔ ((count_of before row ≢ pos 0) ⊎ (count_of after row ≢ pos 0))

-- a row and its weights in the two bags
abbrev pub change_of : List Entry → List Entry → List ℤ → Change
change_of before after row = record { row = row; before = count_of before row; after = count_of after row }

-- the row had a weight, and has it no longer
abbrev pub is_removal : Change → Bool
is_removal c = not (int_eq c.before c.after) && not (int_eq c.before (pos 0))

-- the row has a weight that it had not
abbrev pub is_addition : Change → Bool
is_addition c = not (int_eq c.before c.after) && not (int_eq c.after (pos 0))

-- - WEIGHT ROW, for a weight that is there no longer
abbrev pub removal_text : Change → List ℕ
removal_text c = if is_removal c then codes "- " ++ entry_text (entry_of c.row c.before) else []

-- + WEIGHT ROW, for a weight that is new
abbrev pub addition_text : Change → List ℕ
addition_text c = if is_addition c then codes "+ " ++ entry_text (entry_of c.row c.after) else []

-- the lines of a row: none if it has the same weight in both bags
abbrev pub change_text : Change → List ℕ
change_text c = removal_text c ++ addition_text c

-- how many lines begin with - and how many with +
abbrev pub totals_text : ℕ → ℕ → List ℕ
totals_text removals additions = decimal removals
    ++ (codes " -, " ++ (decimal additions ++ codes " +\n"))

-- the lines of all rows, and then how many there are
abbrev pub changes_text : List Change → List ℕ
changes_text cs = flat_map change_text cs
    ++ totals_text (count_by is_removal cs) (count_by is_addition cs)

-- what changed between two bags, given the rows of either
abbrev pub difference_text : List Entry → List Entry → List (List ℤ) → List ℕ
difference_text before after rows = changes_text (map (change_of before after) rows)
