-- What a test of each element of a list, one after the other, says of all of them.
use Rattle.std.proofs.Common.{◌≡◌, ℕ, zero, suc, ◌+◌, ◌≤◌, Bool, true, List, [], ◌∷◌, take, length, slice_get, IsTrue, IsSomeAnd, refl, sym, ◌∙◌, ap, arith}
use Rattle.std.specs.List.{list_all}
use Rattle.std.proofs.lemmas.Bool.{and_parts, and_from}

module _ {X : Type 0} (p : X → Bool) where
  -- one more element passes
  pub taken_more : (xs : List X) (i : ℕ) (b : Bool) → IsSomeAnd (slice_get xs i) (λ x. b ≡ p x) → b ≡ true → IsTrue (list_all p (take i xs)) → IsTrue (list_all p (take (i + 1) xs))
  taken_more [] i b e t a = absurd e
  taken_more (x ∷ xs) zero b e t a = and_from _ _ (sym e ∙ t) refl
  taken_more (x ∷ xs) (suc i) b e t a =
      let next : suc i + 1 ≡ suc (i + 1) = omega arith in
      let parts = and_parts _ _ a in
      ap (λ n. list_all p (take n (x ∷ xs))) next ∙ and_from _ _ parts.0 (taken_more xs i b e t parts.1)

  -- all elements have passed
  pub taken_all : (xs : List X) (i : ℕ) → length xs ≤ i → IsTrue (list_all p (take i xs)) → IsTrue (list_all p xs)
  taken_all [] i h a = refl
  taken_all (x ∷ xs) zero h a = absurd (omega (arith, h))
  taken_all (x ∷ xs) (suc i) h a = let parts = and_parts _ _ a in and_from _ _ parts.0 (taken_all xs i (omega (arith, h)) parts.1)
