-- From the sum at one time to the sum at a later one.
use Rattle.std.proofs.Common.{◌≡◌, Bool, true, false, cond, ◌&&◌, not, List, [], ◌∷◌, map, sym, refl, ap, ◌∙◌, arith}
use Rattle.std.specs.List.{filter}
use Rattle.std.proofs.lemmas.Int.{ints}
use Rattle.std.proofs.lemmas.Bool.{true≢false}
use Rattle.std.proofs.Math.IntN.{ℤ, pos, ◌+ℤ◌}
use Rattle.lattice.specs.Times.{Times}
use Rattle.lattice.specs.Order.{PartialOrderLaws}
use Rattle.update.specs.Bags.{count_of, same_row}
use Rattle.update.specs.Updates.{entry, as_of}
use Rattle.update.specs.declared.change.Update.{Update}
use Rattle.correction.specs.Evaluations.{between}

-- ---- whole numbers

first_more : (v s a b : ℤ) → s ≡ a +ℤ b → v +ℤ s ≡ (v +ℤ a) +ℤ b
first_more v s a b h = omega (arith, ints, h)

second_more : (v s a b : ℤ) → s ≡ a +ℤ b → v +ℤ s ≡ a +ℤ (v +ℤ b)
second_more v s a b h = omega (arith, ints, h)

-- ---- sums

module _ {T : Type 0} {times : Times T} (o : PartialOrderLaws times) where
  -- what is at or before a time is what was at or before an earlier one, and what came in between
  pub sum_splits : (a t : T) → times.below a t ≡ true → (us : List (Update T)) (row : List ℤ)
      → count_of (as_of times t us) row ≡ count_of (as_of times a us) row +ℤ count_of (map entry (between times a t us)) row
  sum_splits a t h [] row = refl
  sum_splits a t h (u ∷ us) row = step (times.below u.time a) refl (times.below u.time t) refl (sum_splits a t h us row)
    where
      value : ℤ
      value = cond (same_row u.row row) u.diff (pos 0)

      step : (x : Bool) → times.below u.time a ≡ x → (y : Bool) → times.below u.time t ≡ y
          → count_of (as_of times t us) row ≡ count_of (as_of times a us) row +ℤ count_of (map entry (between times a t us)) row
          → count_of (map entry (cond y (u ∷ filter (λ v. times.below v.time t) us) (filter (λ v. times.below v.time t) us))) row
          ≡ count_of (map entry (cond x (u ∷ filter (λ v. times.below v.time a) us) (filter (λ v. times.below v.time a) us))) row
          +ℤ count_of (map entry (cond (y && not x) (u ∷ between times a t us) (between times a t us))) row
      step true e true f ih = first_more value (count_of (as_of times t us) row) (count_of (as_of times a us) row) (count_of (map entry (between times a t us)) row) ih
      step true e false f ih = absurd (true≢false (sym (o.transitive u.time a t e h) ∙ f))
      step false e true f ih = second_more value (count_of (as_of times t us) row) (count_of (as_of times a us) row) (count_of (map entry (between times a t us)) row) ih
      step false e false f ih = ih

  -- all of what came in between is at or before the later time
  pub as_of-between : (a t : T) (us : List (Update T)) → as_of times t (between times a t us) ≡ map entry (between times a t us)
  as_of-between a t [] = refl
  as_of-between a t (u ∷ us) = step (times.below u.time t) refl (times.below u.time a) (as_of-between a t us)
    where
      step : (y : Bool) → times.below u.time t ≡ y → (x : Bool) → as_of times t (between times a t us) ≡ map entry (between times a t us)
          → as_of times t (cond (y && not x) (u ∷ between times a t us) (between times a t us)) ≡ map entry (cond (y && not x) (u ∷ between times a t us) (between times a t us))
      step true f false ih = rw f (ap (λ z. entry u ∷ z) ih)
      step true f true ih = ih
      step false f x ih = ih
