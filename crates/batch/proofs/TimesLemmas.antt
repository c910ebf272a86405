-- A list that is read by the times of its updates, from place to place.
use Rattle.std.proofs.Common.{◌≡◌, ℕ, zero, suc, Bool, true, ◌&&◌, List, [], ◌∷◌, take, drop, slice_get, IsTrue, refl, sym, ap, ◌∙◌}
use Rattle.std.proofs.lemmas.Bool.{and_from, and_parts}
use Rattle.std.specs.Prelude.{IsSomeAnd}
use Rattle.std.specs.List.{list_all}
use Rattle.update.specs.declared.change.Update.{Update}

module _ {T : Type 0} (p : T → Bool) where
  -- the update at a place is the first of those from there on
  pub all_from : (us : List (Update T)) (i : ℕ) (t : T) → IsSomeAnd (slice_get us i) (λ u. t ≡ u.time)
      → list_all (λ u. p u.time) (drop i us) ≡ (p t && list_all (λ u. p u.time) (drop (suc i) us))
  all_from [] i t h = absurd h
  all_from (u ∷ us) zero t h = ap (λ s. p s && list_all (λ (v : Update T). p v.time) us) (sym h)
  all_from (u ∷ us) (suc i) t h = all_from us i t h

  -- it is the last of those up to it
  pub all_to : (us : List (Update T)) (i : ℕ) (t : T) → IsSomeAnd (slice_get us i) (λ u. t ≡ u.time)
      → IsTrue (list_all (λ u. p u.time) (take i us)) → IsTrue (p t) → IsTrue (list_all (λ u. p u.time) (take (suc i) us))
  all_to [] i t h before own = absurd h
  all_to (u ∷ us) zero t h before own = and_from (p u.time) true (ap p (sym h) ∙ own) refl
  all_to (u ∷ us) (suc i) t h before own =
      let parts = and_parts (p u.time) (list_all (λ (v : Update T). p v.time) (take i us)) before in
      and_from (p u.time) (list_all (λ (v : Update T). p v.time) (take (suc i) us)) parts.0 (all_to us i t h parts.1 own)
