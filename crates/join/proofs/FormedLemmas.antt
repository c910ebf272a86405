-- How pairs are formed, one after the other: what one update of the batch adds, and what stands in
-- for what.
use Rattle.std.proofs.Common.{◌≡◌, ℕ, zero, suc, ◌+◌, ◌-◌, ◌≤◌, ◌<◌, Bool, List, [], ◌∷◌, ◌++◌, map, take, drop, length, get_or, slice_get, IsTrue, IsSomeAnd, refl, ◌∙◌, ap, subst, arith, length-drop}
use Rattle.std.specs.Prelude.{slice_range}
use Rattle.std.specs.List.{Contains, list_all}
use Rattle.std.proofs.lemmas.Bool.{and_parts}
use Rattle.std.proofs.lemmas.List.{get_or-drop, take_more}
use Rattle.std.proofs.lemmas.List.Elements.{Contains-append_right}
use Rattle.update.specs.declared.change.Update.{Update}

module _ {X : Type 0} where
  -- a test that all elements pass is passed by the one at a place
  pub place_passes : (p : X → Bool) (xs : List X) (i : ℕ) (x : X) → IsSomeAnd (slice_get xs i) (λ y. x ≡ y) → IsTrue (list_all p xs) → IsTrue (p x)
  place_passes p [] i x e a = absurd e
  place_passes p (y ∷ xs) zero x e a = ap p e ∙ (and_parts _ _ a).0
  place_passes p (y ∷ xs) (suc i) x e a = place_passes p xs i x e (and_parts _ _ a).1

  -- what holds of the element at a place holds of what is read there
  pub some_at : (P : X → Type 0) (xs : List X) (i : ℕ) → i < length xs → ((d : X) → P (get_or xs i d)) → IsSomeAnd (slice_get xs i) P
  some_at P [] i h f = absurd (omega (arith, h))
  some_at P (x ∷ xs) zero h f = f x
  some_at P (x ∷ xs) (suc i) h f = some_at P xs i (omega (arith, h)) f

  pub at_some : (P : X → Type 0) (xs : List X) (i : ℕ) → IsSomeAnd (slice_get xs i) P → (d : X) → P (get_or xs i d)
  at_some P [] i h d = absurd h
  at_some P (x ∷ xs) zero h d = h
  at_some P (x ∷ xs) (suc i) h d = at_some P xs i h d

  -- what holds of what is read at a place holds of the element there
  pub some_is : (P : X → Type 0) (xs : List X) (i : ℕ) (x : X) → IsSomeAnd (slice_get xs i) (λ y. x ≡ y) → P x → IsSomeAnd (slice_get xs i) P
  some_is P [] i x e p = absurd e
  some_is P (y ∷ xs) zero x e p = subst P e p
  some_is P (y ∷ xs) (suc i) x e p = some_is P xs i x e p

  -- what is at a place is an element
  pub some_element : (P : X → Type 0) (xs : List X) (i : ℕ) → IsSomeAnd (slice_get xs i) P → (x : X) × Contains xs x × P x
  some_element P [] i e = absurd e
  some_element P (x ∷ xs) zero e = (x, (0, omega arith, refl), e)
  some_element P (x ∷ xs) (suc i) e =
      let rest = some_element P xs i e in
      (rest.0, Contains-append_right (x ∷ []) xs rest.0 rest.1, rest.2)

  pub passes_at : (p : X → Bool) (xs : List X) (i : ℕ) (d : X) → i < length xs → IsTrue (list_all p xs) → IsTrue (p (get_or xs i d))
  passes_at p [] i d h a = absurd (omega (arith, h))
  passes_at p (x ∷ xs) zero d h a = (and_parts _ _ a).0
  passes_at p (x ∷ xs) (suc i) d h a = passes_at p xs i d (omega (arith, h)) (and_parts _ _ a).1

  -- an item of a loop is what is at its place
  pub item_at : (xs : List X) (i : ℕ) (x : X) → i < length xs → x ≡ get_or xs i x → IsSomeAnd (slice_get xs i) (λ y. x ≡ y)
  item_at [] i x h e = absurd (omega (arith, h))
  item_at (y ∷ xs) zero x h e = e
  item_at (y ∷ xs) (suc i) x h e = item_at xs i x (omega (arith, h)) e

  -- a part of a list with one more element
  pub range_more : (xs : List X) (a i : ℕ) (d : X) → a ≤ i → i < length xs → slice_range xs a (i + 1) ≡ slice_range xs a i ++ get_or xs i d ∷ []
  range_more xs a i d from within =
      let rest = length-drop a xs in
      let inside : i - a < length (drop a xs) = omega (arith, rest, from, within) in
      let count : i + 1 - a ≡ (i - a) + 1 = omega (arith, from) in
      let same : a + (i - a) ≡ i = omega (arith, from) in
      ap (λ n. take n (drop a xs)) count
      ∙ take_more (drop a xs) (i - a) d inside
      ∙ ap (λ y. take (i - a) (drop a xs) ++ y ∷ []) (get_or-drop a xs (i - a) d ∙ ap (λ n. get_or xs n d) same)

module _ {T : Type 0} where
  -- what is at a place of a list is there in its image
  pub image_at : {X : Type 0} (f : X → Update T) (P : Update T → Type 0) (xs : List X) (i : ℕ) → IsSomeAnd (slice_get xs i) (λ x. P (f x)) → IsSomeAnd (slice_get (map f xs) i) P
  image_at f P [] i e = absurd e
  image_at f P (x ∷ xs) zero e = e
  image_at f P (x ∷ xs) (suc i) e = image_at f P xs i e
