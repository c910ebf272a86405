-- Bags: rows, each with its count (Abadi, McSherry and Plotkin, Foundations of Differential
-- Dataflow, 2015).
use Rattle.std.specs.Prelude.{◌≡◌, ◌≢◌, ℕ, Bool, if◌then◌else◌, List, [], ◌∷◌, ℤ, pos, ◌+ℤ◌, FitsSigned, unsigned_abs, sum_by}
use Rattle.std.specs.Int.{w64}
use Rattle.std.specs.List.{AllByRecursion}
use Rattle.std.specs.List.Sorted.{IsStrictlySortedBy}
use Rattle.std.specs.Cmp.Lexicographic.{pointwise, slice_cmp}
use Rattle.std.specs.Ordering.{int_cmp, int_eq}

-- the sum of the values of a list's elements
abbrev pub total_by : {X : Type 0} → (X → ℤ) → List X → ℤ
total_by f [] = pos 0
total_by f (x ∷ xs) = f x +ℤ total_by f xs

-- the rows have the same columns
abbrev pub same_row : List ℤ → List ℤ → Bool
same_row = pointwise int_eq

-- a row and its count
pub record Entry : Type 0 where
  pub row : List ℤ
  pub count : ℤ

-- the entry of a row and a count
abbrev pub entry_of : List ℤ → ℤ → Entry
entry_of row count = record { row = row; count = count }

-- the count of a row in a list of entries: the sum of the counts of its entries
abbrev pub count_of : List Entry → List ℤ → ℤ
count_of entries row = total_by (λ e. if same_row e.row row then e.count else pos 0) entries

-- the lists are the same bag: each row has the same count in both
abbrev pub Alike : List Entry → List Entry → Type 0
Alike a b = (row : List ℤ) → count_of a row ≡ count_of b row

-- some row's count is no 64-bit number
abbrev pub HasLargeCount : List Entry → Type 0
HasLargeCount entries = (row : List ℤ) × (FitsSigned w64 (count_of entries row) → ⊥)

-- each row once, in order, with a count that is not 0; of all lists of a bag, a contract sees this
-- one
pub record IsBag (entries : List Entry) : Type 0 where
  pub ascending : IsStrictlySortedBy (λ a b. slice_cmp int_cmp a.row b.row) entries
  pub nonzero : AllByRecursion (λ e. e.count ≢ pos 0) entries

-- the sum of the absolute counts
abbrev pub bag_size : List Entry → ℕ
bag_size entries = sum_by (λ e. unsigned_abs e.count) entries
