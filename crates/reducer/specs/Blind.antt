-- Reducers that do not look at rows.
use Rattle.std.specs.Prelude.{◌≡◌, ℕ, List, ℤ, IsTrue, length}
use Rattle.std.specs.List.{list_all}
use Rattle.update.specs.Bags.{Entry, Alike}
use Rattle.plan.specs.Reductions.{has_key, sum_of_counts}

-- of the rows of a key, the answer depends on the sum of their counts alone
abbrev pub IsBlind : ℕ → (List ℤ → List Entry → List Entry) → Type 0
IsBlind k reduce = (key : List ℤ) (a b : List Entry) → length key ≡ k
    → IsTrue (list_all (has_key k key) a) → IsTrue (list_all (has_key k key) b)
    → sum_of_counts a ≡ sum_of_counts b → Alike (reduce key a) (reduce key b)
