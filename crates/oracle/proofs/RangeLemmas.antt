-- A range of a bag's entries, as a list of its own.
use Rattle.std.proofs.Common.{◌≡◌, ℕ, zero, suc, ◌+◌, ◌-◌, ◌<◌, List, [], ◌∷◌, take, drop, refl, ap, ◌∙◌, arith}
use Rattle.std.specs.Prelude.{slice_get, slice_range}
use Rattle.std.specs.List.{AllByRecursion}
use Rattle.std.specs.List.Sorted.{IsStrictlySortedBy}
use Rattle.std.specs.declared.cmp.Ordering.{Ordering}
use Rattle.std.specs.declared.cmp.Ordering.TheVariants.{Less}

module _ {X : Type 0} where
  get_take : (n i : ℕ) (xs : List X) → i < n → slice_get (take n xs) i ≡ slice_get xs i
  get_take zero i xs l = absurd (omega (arith, l))
  get_take (suc n) i [] l = refl
  get_take (suc n) zero (x ∷ xs) l = refl
  get_take (suc n) (suc i) (x ∷ xs) l = get_take n i xs (omega (arith, l))

  get_drop : (n i : ℕ) (xs : List X) → slice_get (drop n xs) i ≡ slice_get xs (n + i)
  get_drop zero i xs = ap (slice_get xs) first
    where
      first : i ≡ 0 + i
      first = omega arith
  get_drop (suc n) i [] = refl
  get_drop (suc n) i (x ∷ xs) = get_drop n i xs ∙ ap (slice_get (x ∷ xs)) next
    where
      next : suc (n + i) ≡ suc n + i
      next = omega arith

  -- entry i of a range is entry `from + i` of the list
  pub get_range : (from to i : ℕ) (xs : List X) → i < to - from → slice_get (slice_range xs from to) i ≡ slice_get xs (from + i)
  get_range from to i xs l = get_take (to - from) i (drop from xs) l ∙ get_drop from i xs

  module _ (cmp : X → X → Ordering) where
    all_take : (x : X) (n : ℕ) (xs : List X) → AllByRecursion (λ y. cmp x y ≡ Less) xs → AllByRecursion (λ y. cmp x y ≡ Less) (take n xs)
    all_take x zero xs h = tt
    all_take x (suc n) [] h = tt
    all_take x (suc n) (y ∷ xs) h = (h.0, all_take x n xs h.1)

    sorted_take : (n : ℕ) (xs : List X) → IsStrictlySortedBy cmp xs → IsStrictlySortedBy cmp (take n xs)
    unfolding IsStrictlySortedBy
    sorted_take zero xs h = tt
    sorted_take (suc n) [] h = tt
    sorted_take (suc n) (x ∷ xs) h = (all_take x n xs h.0, sorted_take n xs h.1)

    sorted_drop : (n : ℕ) (xs : List X) → IsStrictlySortedBy cmp xs → IsStrictlySortedBy cmp (drop n xs)
    unfolding IsStrictlySortedBy
    sorted_drop zero xs h = h
    sorted_drop (suc n) [] h = tt
    sorted_drop (suc n) (x ∷ xs) h = sorted_drop n xs h.1

    -- a range of a sorted list is sorted
    pub sorted_range : (from to : ℕ) (xs : List X) → IsStrictlySortedBy cmp xs → IsStrictlySortedBy cmp (slice_range xs from to)
    sorted_range from to xs h = sorted_take (to - from) (drop from xs) (sorted_drop from xs h)
