-- Steps of loops that copy a list, element by element.
use Rattle.std.proofs.Common.{◌≡◌, ℕ, List, [], ◌∷◌, ◌++◌, length, take, get_or, ◌+◌, ◌<◌, ◌≤◌, ap, sym, ◌∙◌, take_all}
use Rattle.std.proofs.lemmas.List.{take_more, get_or_read}

module _ {X : Type 0} (xs : List X) (i : ℕ) where
  -- the copy u of element i is appended to the copies of the elements before it
  pub copied_more : (ys new : List X) (w u : X) → i < length xs → ys ≡ take i xs → w ≡ get_or xs i w → u ≡ w → new ≡ ys ++ (u ∷ []) → new ≡ take (i + 1) xs
  copied_more ys new w u inside so_far read copy push =
      push ∙ ap (λ zs. zs ++ (u ∷ [])) so_far ∙ ap (λ x. take i xs ++ (x ∷ [])) (copy ∙ get_or_read xs i w inside read w) ∙ sym (take_more xs i w inside)

  -- at the end of the loop all elements have been copied
  pub copied_all : (ys : List X) → length xs ≤ i → ys ≡ take i xs → ys ≡ xs
  copied_all ys end so_far = so_far ∙ take_all i xs end

  -- element i itself is appended to the copies of the elements before it
  pub put_more : (ys new : List X) (d : X) → i < length xs → ys ≡ take i xs → new ≡ ys ++ (get_or xs i d ∷ []) → new ≡ take (i + 1) xs
  put_more ys new d inside so_far push = push ∙ ap (λ zs. zs ++ (get_or xs i d ∷ [])) so_far ∙ sym (take_more xs i d inside)
