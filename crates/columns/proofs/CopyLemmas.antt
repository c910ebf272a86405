-- Copies of the updates of a list, one after the other.
use Rattle.std.proofs.Common.{◌≡◌, ℕ, ◌+◌, ◌<◌, List, [], ◌∷◌, ◌++◌, length, take, get_or, slice_get, IsSomeAnd, sym, ap, ◌∙◌, subst, add-one, append_assoc}
use Rattle.std.proofs.Math.Seq.{take-suc}
use Rattle.std.proofs.lemmas.Option.{slice_get-get_or}

module _ {X : Type 0} (xs : List X) (i : ℕ) (l : i < length xs) (x : X) (copied : IsSomeAnd (slice_get xs i) (λ y. x ≡ y)) where
  -- a copy of the next element comes behind those before it
  pub one_copied : take (i + 1) xs ≡ take i xs ++ x ∷ []
  one_copied =
      let same : x ≡ get_or xs i x = subst (λ o. IsSomeAnd o (λ y. x ≡ y)) (slice_get-get_or xs i x l) copied in
      rw add-one (take-suc xs i x l) ∙ ap (λ y. take i xs ++ y ∷ []) (sym same)

  -- the copies with one more
  pub copies_with_next : (old mid new : List X) → mid ≡ old ++ take i xs → new ≡ mid ++ x ∷ [] → new ≡ old ++ take (i + 1) xs
  copies_with_next old mid new m e =
      e ∙ ap (λ ys. ys ++ x ∷ []) m ∙ append_assoc old (take i xs) (x ∷ []) ∙ ap (λ ys. old ++ ys) (sym one_copied)
