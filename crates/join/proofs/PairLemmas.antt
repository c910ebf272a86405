-- The pairs of updates: what they sum to at a time, and their size.
use Rattle.std.proofs.Common.{◌≡◌, ℕ, ◌+◌, ◌*◌, ◌≤◌, Bool, true, false, ◌&&◌, cond, List, [], ◌∷◌, ◌++◌, map, take, refl, ◌∙◌, ap, ap₂, subst, arith}
use Rattle.std.specs.Prelude.{unsigned_abs}
use Rattle.std.specs.List.{filter}
use Rattle.std.proofs.lemmas.Int.{unsigned_abs-mul}
use Rattle.std.proofs.lemmas.List.{map-append}
use Rattle.std.proofs.lemmas.List.Elements.{filter-append}
use Rattle.std.proofs.Math.Nat.{mul-add, add-mul}
use Rattle.update.specs.Bags.{Entry}
use Rattle.update.specs.Updates.{as_of, entry, size}
use Rattle.update.specs.declared.change.Update.{Update}
use Rattle.update.proofs.ConsolidatedLemmas.{summed_size, summed_size_is, summed_size-append}
use Rattle.plan.specs.Reductions.{has_key}
use Rattle.plan.specs.Operators.{join_output, joined_entry}
use Rattle.join.specs.Pairs.{is_keyed, pair_of, pairs_with, pairs}
use Rattle.lattice.specs.Times.{Times}

-- the sum of two lists at a time is the sum of each, together
pub as_of-append : {T : Type 0} (times : Times T) (t : T) (us vs : List (Update T)) → as_of times t (us ++ vs) ≡ as_of times t us ++ as_of times t vs
as_of-append times t us vs =
    ap (λ l. map entry l) (filter-append (λ u. times.below u.time t) us vs)
    ∙ map-append entry (filter (λ u. times.below u.time t) us) (filter (λ u. times.below u.time t) vs)

-- ---- sums

module _ {T : Type 0} (times : Times T) (join_below : (a b s : T) → times.below (times.joined a b) s ≡ (times.below a s && times.below b s)) (k : ℕ) (t : T) where
  abbrev at : List (Update T) → List Entry
  at us = as_of times t us

  -- an update that is visible is paired with what is visible of the right list
  visible_at : (u : Update T) → times.below u.time t ≡ true → (vs : List (Update T)) → at (pairs_with times k u vs) ≡ map (joined_entry k (entry u)) (filter (has_key k (take k u.row)) (at vs))
  visible_at u e [] = refl
  visible_at u e (v ∷ vs) = step (is_keyed k (take k u.row) v) (times.below v.time t) refl refl (visible_at u e vs)
    where
      step : (b c : Bool) → is_keyed k (take k u.row) v ≡ b → times.below v.time t ≡ c
          → at (pairs_with times k u vs) ≡ map (joined_entry k (entry u)) (filter (has_key k (take k u.row)) (at vs))
          → at (map (pair_of times k u) (cond b (v ∷ filter (is_keyed k (take k u.row)) vs) (filter (is_keyed k (take k u.row)) vs)))
          ≡ map (joined_entry k (entry u)) (filter (has_key k (take k u.row)) (map entry (cond c (v ∷ filter (λ w. times.below w.time t) vs) (filter (λ w. times.below w.time t) vs))))
      step true true f g h = rw (join_below u.time v.time t, e, g, f) (ap (λ es. joined_entry k (entry u) (entry v) ∷ es) h)
      step true false f g h = rw (join_below u.time v.time t, e, g) h
      step false true f g h = rw f h
      step false false f g h = h

  -- no pair of an update is visible before the update is
  hidden_at : (u : Update T) → times.below u.time t ≡ false → (vs : List (Update T)) → at (pairs_with times k u vs) ≡ []
  hidden_at u e [] = refl
  hidden_at u e (v ∷ vs) = step (is_keyed k (take k u.row) v) (hidden_at u e vs)
    where
      step : (b : Bool) → at (pairs_with times k u vs) ≡ [] → at (map (pair_of times k u) (cond b (v ∷ filter (is_keyed k (take k u.row)) vs) (filter (is_keyed k (take k u.row)) vs))) ≡ []
      step true h = rw (join_below u.time v.time t, e) h
      step false h = h

  -- at every time the pairs sum to the join of both sums; what is known of the operator on bags so
  -- holds of pairs
  pub pairs_at : (us vs : List (Update T)) → at (pairs times k us vs) ≡ join_output k (at us) (at vs)
  pairs_at [] vs = refl
  pairs_at (u ∷ us) vs = as_of-append times t (pairs_with times k u vs) (pairs times k us vs) ∙ step (times.below u.time t) refl (pairs_at us vs)
    where
      step : (b : Bool) → times.below u.time t ≡ b → at (pairs times k us vs) ≡ join_output k (at us) (at vs)
          → at (pairs_with times k u vs) ++ at (pairs times k us vs) ≡ join_output k (map entry (cond b (u ∷ filter (λ w. times.below w.time t) us) (filter (λ w. times.below w.time t) us))) (at vs)
      step true e h = ap₂ (λ a b. a ++ b) (visible_at u e vs) h
      step false e h = ap₂ (λ a b. a ++ b) (hidden_at u e vs) h

-- ---- sizes

module _ {T : Type 0} (times : Times T) (k : ℕ) where
  -- the pairs of one update are at most as large as its diff times the right list
  pairs_with_within : (u : Update T) (vs : List (Update T)) → summed_size (pairs_with times k u vs) ≤ unsigned_abs u.diff * summed_size vs
  pairs_with_within u [] = omega arith
  pairs_with_within u (v ∷ vs) = step (is_keyed k (take k u.row) v) (pairs_with_within u vs)
    where
      step : (b : Bool) → summed_size (pairs_with times k u vs) ≤ unsigned_abs u.diff * summed_size vs
          → summed_size (map (pair_of times k u) (cond b (v ∷ filter (is_keyed k (take k u.row)) vs) (filter (is_keyed k (take k u.row)) vs))) ≤ unsigned_abs u.diff * (unsigned_abs v.diff + summed_size vs)
      step true h =
          let product = unsigned_abs-mul u.diff v.diff in
          let apart = mul-add (unsigned_abs u.diff) (unsigned_abs v.diff) (summed_size vs) in
          omega (arith, product, apart, h)
      step false h =
          let apart = mul-add (unsigned_abs u.diff) (unsigned_abs v.diff) (summed_size vs) in
          omega (arith, apart, h)

  pairs_within : (us vs : List (Update T)) → summed_size (pairs times k us vs) ≤ summed_size us * summed_size vs
  pairs_within [] vs = omega arith
  pairs_within (u ∷ us) vs =
      let here = pairs_with_within u vs in
      let rest = pairs_within us vs in
      let both = summed_size-append (pairs_with times k u vs) (pairs times k us vs) in
      let apart = add-mul (unsigned_abs u.diff) (summed_size us) (summed_size vs) in
      omega (arith, here, rest, both, apart)

  -- the size of the pairs is at most the product of both sizes, so a product that fits cannot
  -- overflow
  pub size_pairs : (us vs : List (Update T)) → size (pairs times k us vs) ≤ size us * size vs
  size_pairs us vs =
      subst (λ n. n ≤ size us * size vs) (summed_size_is (pairs times k us vs))
      (subst (λ n. summed_size (pairs times k us vs) ≤ n * size vs) (summed_size_is us)
      (subst (λ n. summed_size (pairs times k us vs) ≤ summed_size us * n) (summed_size_is vs) (pairs_within us vs)))
