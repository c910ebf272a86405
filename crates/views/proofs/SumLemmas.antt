-- Sums at a time of two lists, one after the other.
use Rattle.std.proofs.Common.{◌≡◌, Bool, true, false, cond, List, [], ◌∷◌, ◌++◌, map, refl, ap}
use Rattle.std.specs.List.{filter}
use Rattle.std.proofs.Math.IntN.{ℤ, ◌+ℤ◌}
use Rattle.update.specs.Bags.{count_of}
use Rattle.update.specs.Updates.{as_of, entry}
use Rattle.update.specs.declared.change.Update.{Update}
use Rattle.plan.proofs.CountLemmas.{count_of-append}
use Rattle.lattice.specs.Times.{Times}

module _ {T : Type 0} (times : Times T) (t : T) where
  -- how often a row is in the sum at t
  abbrev pub sum_at : List (Update T) → List ℤ → ℤ
  sum_at us r = count_of (as_of times t us) r

  abbrev counts : Update T → Bool
  counts u = times.below u.time t

  -- the sum of two lists at a time is the sum of each
  pub as_of-append : (xs ys : List (Update T)) → as_of times t (xs ++ ys) ≡ as_of times t xs ++ as_of times t ys
  as_of-append [] ys = refl
  as_of-append (u ∷ xs) ys = step (times.below u.time t) (as_of-append xs ys)
    where
      step : (b : Bool) → as_of times t (xs ++ ys) ≡ as_of times t xs ++ as_of times t ys → map entry (cond b (u ∷ filter counts (xs ++ ys)) (filter counts (xs ++ ys))) ≡ map entry (cond b (u ∷ filter counts xs) (filter counts xs)) ++ as_of times t ys
      step true h = ap (λ z. entry u ∷ z) h
      step false h = h

  -- the count of a row in two lists is the sum of its counts in each
  pub sum_at-append : (xs ys : List (Update T)) (r : List ℤ) → sum_at (xs ++ ys) r ≡ sum_at xs r +ℤ sum_at ys r
  sum_at-append xs ys r = rw (as_of-append xs ys) (count_of-append (as_of times t xs) (as_of times t ys) r)
