-- What is given of a key at one time: what is wanted there less what was given up to it.
use Rattle.std.specs.Prelude.{◌≡◌, ℕ, true, List, [], ◌∷◌, ◌++◌, ℤ, ◌+ℤ◌, neg_ℤ, take, map, FitsSigned, ◌⊎◌}
use Rattle.std.specs.Int.{w64}
use Rattle.std.specs.List.{filter}
use Rattle.update.specs.Bags.{Entry, Alike, HasLargeCount, count_of, same_row}
use Rattle.update.specs.Updates.{as_of, AreApart}
use Rattle.update.specs.declared.change.Update.{Update}
use Rattle.plan.specs.Reductions.{has_key}
use Rattle.reducer.specs.Refusals.{HasLargeSum}
use Rattle.lattice.specs.Times.{Times}

-- the count of some row, or the sum of all counts, is no 64-bit number
abbrev pub IsTooLarge : List Entry → Type 0
IsTooLarge entries = HasLargeCount entries ⊎ HasLargeSum entries

module _ {T : Type 0} (times : Times T) where
  -- of the rows of a key, what was given sums at t to what the reducer makes of what was taken
  abbrev pub IsRight : ℕ → (List ℤ → List Entry → List Entry) → List (Update T) → List (Update T) → List ℤ → T → Type 0
  IsRight k reduce taken given key t =
      (row : List ℤ) → same_row (take k row) key ≡ true
      → count_of (as_of times t given) row
      ≡ count_of (reduce key (filter (has_key k key) (as_of times t taken))) row

module _ {T : Type 0} where
  -- each update is of the key and at the time
  abbrev pub AllAt : ℕ → List ℤ → T → List (Update T) → Type 0
  AllAt k key t [] = Unit {0}
  AllAt k key t (g ∷ gs) = (take k g.row ≡ key) × (g.time ≡ t) × AllAt k key t gs

  -- entries at a time
  abbrev pub put : T → List Entry → List (Update T)
  put t es = map (λ e. record { row = e.row; time = t; diff = e.count }) es

  -- what was given of a key up to a time
  abbrev pub had : Times T → ℕ → List ℤ → T → List (Update T) → List Entry
  had times k key t given = filter (has_key k key) (as_of times t given)

module _ {T : Type 0} (times : Times T) (k : ℕ) (reduce : List ℤ → List Entry → List Entry)
    (content given : List (Update T)) (key : List ℤ) (t : T) where
  -- what is wanted of a row at the time
  abbrev pub wanted : List ℤ → ℤ
  wanted row = count_of (reduce key (filter (has_key k key) (as_of times t content))) row

  -- these updates, given besides, make it right there for all that was taken and has these sums
  -- there
  pub record Corrects (more : List (Update T)) : Type 0 where
    pub at : AllAt k key t more
    pub apart : AreApart times more
    pub right : (taken : List (Update T)) → Alike (as_of times t content) (as_of times t taken)
        → IsRight times k reduce taken (given ++ more) key t

  -- what the count of a row of the key is to change by there is no 64-bit number
  abbrev pub HasLargeChange : Type 0
  HasLargeChange =
      (row : List ℤ) × (same_row (take k row) key ≡ true)
      × (FitsSigned w64 (wanted row +ℤ neg_ℤ (count_of (as_of times t given) row)) → ⊥)

  -- a number is too large there: the count of a row of the key, the sum of these counts, or what
  -- the count of a row is to change by
  abbrev pub IsTooMuch : Type 0
  IsTooMuch = IsTooLarge (filter (has_key k key) (as_of times t content)) ⊎ HasLargeChange
