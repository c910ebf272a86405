-- Counts that are kept by entry, read as a list.
use Rattle.std.specs.Prelude.{◌≡◌, ℕ, Bool, List, [], ◌∷◌, ◌++◌, length, replicate}
use Rattle.std.specs.List.{filter}

-- the key of each entry once, and so many times more as its number says
abbrev pub listed : {A : Type 0} → List (A × ℕ) → List A
listed [] = []
listed (e ∷ es) = e.0 ∷ (replicate e.1 e.0 ++ listed es)

-- the lists have each element equally often, in whatever order
abbrev pub CountAlike : {A : Type 0} → List A → List A → Type 0
CountAlike {A} a b = (test : A → Bool) → length (filter test a) ≡ length (filter test b)
