-- Lists that agree from an index on.
use Rattle.std.proofs.Common.{◌≡◌, ℕ, zero, suc, ◌+◌, ◌-◌, ◌<◌, ◌≤◌, List, [], ◌∷◌, length, get_or, drop, refl, ap, sym, ◌∙◌, add-one, drop-cons, arith}
use Rattle.std.proofs.lemmas.List.{drop-drop, get_or-drop}
use Rattle.std.specs.List.{SwappedAt}

module _ {X : Type 0} where
  -- lists that agree from an index on also agree from each later index on
  pub rest_later : (k n : ℕ) (xs ys : List X) → k ≤ n → drop k xs ≡ drop k ys → drop n xs ≡ drop n ys
  rest_later k n xs ys l e =
      let m : k + (n - k) ≡ n = omega arith in
      ap (λ j. drop j xs) (sym m) ∙ sym (drop-drop (n - k) k xs) ∙ ap (drop (n - k)) e ∙ drop-drop (n - k) k ys ∙ ap (λ j. drop j ys) m

  -- lists that agree from an index on have the same element at each later index
  pub get_later : (k n : ℕ) (xs ys : List X) (d : X) → k ≤ n → drop k xs ≡ drop k ys → get_or xs n d ≡ get_or ys n d
  get_later k n xs ys d l e =
      let m : k + (n - k) ≡ n = omega arith in
      ap (λ j. get_or xs j d) (sym m) ∙ sym (get_or-drop k xs (n - k) d) ∙ ap (λ zs. get_or zs (n - k) d) e ∙ get_or-drop k ys (n - k) d ∙ ap (λ j. get_or ys j d) m

  -- lists of the same length with the same elements from index n on have the same rest
  pub rest_by_places : (n : ℕ) (xs ys : List X) → length xs ≡ length ys → ((k : ℕ) (d : X) → n ≤ k → get_or xs k d ≡ get_or ys k d) → drop n xs ≡ drop n ys
  rest_by_places n [] [] e h = refl
  rest_by_places n [] (y ∷ ys) e h = absurd (omega (arith, e))
  rest_by_places n (x ∷ xs) [] e h = absurd (omega (arith, e))
  rest_by_places zero (x ∷ xs) (y ∷ ys) e h =
      let first : x ≡ y = h 0 x (omega arith) in
      let rest = rest_by_places zero xs ys (omega (arith, e)) (λ k d l. h (suc k) d (omega arith)) in
      λ i. first i ∷ rest i
  rest_by_places (suc n) (x ∷ xs) (y ∷ ys) e h = rest_by_places n xs ys (omega (arith, e)) (λ k d l. h (suc k) d (omega (arith, l)))

  -- a swap changes nothing after both indices
  pub rest_swapped : (i j n : ℕ) (xs ys : List X) → i < n → j < n → length ys ≡ length xs → SwappedAt xs ys i j → drop n ys ≡ drop n xs
  rest_swapped i j n xs ys l m e s =
      rest_by_places n ys xs e (λ k d h. s.2 k d (λ q. absurd (omega (arith, h, q))) (λ q. absurd (omega (arith, h, q))))

  -- the rest of a list from index n is element n and the rest after it, also in a list that agrees
  -- with it from there on
  pub to_come : (n : ℕ) (xs all : List X) (d : X) → n < length xs → drop n xs ≡ drop n all → drop n all ≡ get_or xs n d ∷ drop (n + 1) all
  to_come n xs all d l e =
      let rest : drop (n + 1) xs ≡ drop (n + 1) all = rest_later n (n + 1) xs all (omega arith) e in
      let here : drop n xs ≡ get_or xs n d ∷ drop (n + 1) xs = rw add-one (drop-cons xs n d l) in
      sym e ∙ here ∙ ap (λ ys. get_or xs n d ∷ ys) rest
