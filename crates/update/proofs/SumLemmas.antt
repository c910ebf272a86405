-- Totals of the values of a list's elements: how they go through addition, append, map, filter and
-- reordering.
use Rattle.std.proofs.Common.{◌≡◌, ℕ, suc, ◌+◌, Bool, true, false, cond, not, ◌&&◌, List, [], ◌∷◌, ◌++◌, map, IsTrue, refl, ap, sym, ◌∙◌, inl, inr, arith}
use Rattle.std.specs.Prelude.{ℤ, pos, negsuc, ◌+ℤ◌, ◌-ℤ◌}
use Rattle.std.specs.List.{filter}
use Rattle.std.specs.List.Sorted.{IsPermutation}
use Rattle.std.proofs.lemmas.Int.{ints}
use Rattle.std.proofs.lemmas.Bool.{true≢false}
use Rattle.std.proofs.lemmas.List.Recursion.{is_sum_by}
use Rattle.std.proofs.lemmas.List.Sorted.{sum_by-IsPermutation}
use Rattle.std.proofs.Math.IntN.{neg_ℤ}
use Rattle.antichain.proofs.Lists.{Among}
use Rattle.update.specs.Bags.{total_by}
use Rattle.update.specs.Updates.{total_where}
use Rattle.update.specs.declared.change.Update.{Update}

module _ {X : Type 0} where
  -- values that agree at each element
  pub total_by-same_at : (f g : X → ℤ) (xs : List X) → ((x : X) → Among x xs → f x ≡ g x) → total_by f xs ≡ total_by g xs
  total_by-same_at f g [] h = refl
  total_by-same_at f g (x ∷ xs) h =
      let first = h x (inl refl) in
      let rest = total_by-same_at f g xs (λ y m. h y (inr m)) in
      λ i. first i +ℤ rest i

  -- equal values have equal totals
  pub total_by-same : (f g : X → ℤ) (xs : List X) → ((x : X) → f x ≡ g x) → total_by f xs ≡ total_by g xs
  total_by-same f g xs h = total_by-same_at f g xs (λ x m. h x)

  -- values that are all 0 add up to 0
  pub total_by-zero : (f : X → ℤ) (xs : List X) → ((x : X) → Among x xs → f x ≡ pos 0) → total_by f xs ≡ pos 0
  total_by-zero f [] h = refl
  total_by-zero f (x ∷ xs) h =
      let first = h x (inl refl) in
      let rest = total_by-zero f xs (λ y m. h y (inr m)) in
      λ i. first i +ℤ rest i

  -- the total of sums is the sum of the totals
  pub total_by-add : (f g : X → ℤ) (xs : List X) → total_by (λ x. f x +ℤ g x) xs ≡ total_by f xs +ℤ total_by g xs
  total_by-add f g [] = refl
  total_by-add f g (x ∷ xs) = let h = total_by-add f g xs in omega (arith, ints)

  -- the total of negated values is the negated total
  pub total_by-negate : (f : X → ℤ) (xs : List X) → total_by (λ x. neg_ℤ (f x)) xs ≡ neg_ℤ (total_by f xs)
  total_by-negate f [] = refl
  total_by-negate f (x ∷ xs) = let h = total_by-negate f xs in omega (arith, ints)

  -- the total over two lists together is the sum of both totals
  pub total_by-append : (f : X → ℤ) (xs ys : List X) → total_by f (xs ++ ys) ≡ total_by f xs +ℤ total_by f ys
  total_by-append f [] ys = omega (arith, ints)
  total_by-append f (x ∷ xs) ys = let h = total_by-append f xs ys in omega (arith, ints)

  -- a total over images is a total over the elements
  pub total_by-map : {Y : Type 0} (f : Y → ℤ) (g : X → Y) (xs : List X) → total_by f (map g xs) ≡ total_by (λ x. f (g x)) xs
  total_by-map f g [] = refl
  total_by-map f g (x ∷ xs) = ap (λ z. f (g x) +ℤ z) (total_by-map f g xs)

  -- the total over a filtered list is the total over the list with 0 for each element that does not
  -- pass
  pub total_by-filter : (f : X → ℤ) (p : X → Bool) (xs : List X) → total_by f (filter p xs) ≡ total_by (λ x. cond (p x) (f x) (pos 0)) xs
  total_by-filter f p [] = refl
  total_by-filter f p (x ∷ xs) =
      let h = total_by-filter f p xs in
      elim (p x) as (λ b. total_by f (cond b (x ∷ filter p xs) (filter p xs)) ≡ cond b (f x) (pos 0) +ℤ total_by (λ y. cond (p y) (f y) (pos 0)) xs) [
        | true ↦ ap (λ z. f x +ℤ z) h
        | false ↦ omega (arith, ints)
      ]

  -- a total is the total of what passes a test plus the total of what does not
  pub total_by-split : (f : X → ℤ) (p : X → Bool) (xs : List X) → total_by f xs ≡ total_by f (filter p xs) +ℤ total_by f (filter (λ x. not (p x)) xs)
  total_by-split f p [] = refl
  total_by-split f p (x ∷ xs) =
      let h = total_by-split f p xs in
      elim (p x) as (λ b. f x +ℤ total_by f xs ≡ total_by f (cond b (x ∷ filter p xs) (filter p xs)) +ℤ total_by f (cond (not b) (x ∷ filter (λ y. not (p y)) xs) (filter (λ y. not (p y)) xs))) [
        | true ↦ omega (arith, ints)
        | false ↦ omega (arith, ints)
      ]

-- sums over the elements that pass a test
module _ {X : Type 0} (v : X → ℤ) where
  -- the total of what passes a test
  abbrev pub sum_where : (X → Bool) → List X → ℤ
  sum_where p xs = total_by (λ x. cond (p x) (v x) (pos 0)) xs

  -- equal tests have equal totals
  pub sum_where-same : (p q : X → Bool) (xs : List X) → ((x : X) → p x ≡ q x) → sum_where p xs ≡ sum_where q xs
  sum_where-same p q xs h = total_by-same (λ x. cond (p x) (v x) (pos 0)) (λ x. cond (q x) (v x) (pos 0)) xs (λ x. ap (λ b. cond b (v x) (pos 0)) (h x))

  -- if no element passes, then the total is 0
  pub sum_where-none : (p : X → Bool) (xs : List X) → ((x : X) → Among x xs → p x ≡ false) → sum_where p xs ≡ pos 0
  sum_where-none p xs h = total_by-zero (λ x. cond (p x) (v x) (pos 0)) xs (λ x m. ap (λ b. cond b (v x) (pos 0)) (h x m))

  -- the total of what passes a test splits by a second test
  pub sum_where-split : (p q : X → Bool) (xs : List X) → sum_where p xs ≡ sum_where (λ x. p x && q x) xs +ℤ sum_where (λ x. p x && not (q x)) xs
  sum_where-split p q xs =
      total_by-same (λ x. cond (p x) (v x) (pos 0)) (λ x. cond (p x && q x) (v x) (pos 0) +ℤ cond (p x && not (q x)) (v x) (pos 0)) xs (λ x. two (p x) (q x) (v x))
      ∙ total_by-add (λ x. cond (p x && q x) (v x) (pos 0)) (λ x. cond (p x && not (q x)) (v x) (pos 0)) xs
    where
      two : (a b : Bool) (c : ℤ) → cond a c (pos 0) ≡ cond (a && b) c (pos 0) +ℤ cond (a && not b) c (pos 0)
      two true true c = omega (arith, ints)
      two true false c = omega (arith, ints)
      two false b c = refl

-- a filter that keeps each update which passes a test keeps the total of those updates
pub total_where-filter : {T : Type 0} (q : List ℤ → T → Bool) (p : Update T → Bool) (us : List (Update T)) → ((u : Update T) → IsTrue (q u.row u.time) → IsTrue (p u)) → total_where q (filter p us) ≡ total_where q us
total_where-filter {T} q p us h =
    let diff_where : Update T → ℤ = λ u. cond (q u.row u.time) u.diff (pos 0) in
    total_by-filter diff_where p us
    ∙ total_by-same (λ u. cond (p u) (diff_where u) (pos 0)) diff_where us (λ u. kept (p u) (q u.row u.time) u.diff (h u))
  where
    kept : (b c : Bool) (d : ℤ) → (IsTrue c → IsTrue b) → cond b (cond c d (pos 0)) (pos 0) ≡ cond c d (pos 0)
    kept true c d k = refl
    kept false true d k = absurd (true≢false (sym (k refl)))
    kept false false d k = refl

-- totals and reordered lists
above : ℤ → ℕ
above (pos n) = n
above (negsuc n) = 0

under : ℤ → ℕ
under (pos n) = 0
under (negsuc n) = suc n

two_parts : (x : ℤ) → x ≡ pos (above x) -ℤ pos (under x)
unfolding above under
two_parts (pos n) = omega (arith, ints)
two_parts (negsuc n) = omega (arith, ints)

module _ {X : Type 0} (f : X → ℤ) where
  abbrev gained : List X → ℕ
  gained [] = 0
  gained (x ∷ xs) = above (f x) + gained xs

  abbrev lost : List X → ℕ
  lost [] = 0
  lost (x ∷ xs) = under (f x) + lost xs

  as_parts : (xs : List X) → total_by f xs ≡ pos (gained xs) -ℤ pos (lost xs)
  as_parts [] = refl
  as_parts (x ∷ xs) = let h = as_parts xs in let e = two_parts (f x) in omega (arith, ints)

  -- totals do not depend on the order
  pub total_by-permutation : (xs ys : List X) → IsPermutation xs ys → total_by f xs ≡ total_by f ys
  total_by-permutation xs ys p =
      let g : gained xs ≡ gained ys = is_sum_by gained (λ x. above (f x)) refl (λ _ _. refl) xs ∙ sym (sum_by-IsPermutation (λ x. above (f x)) xs ys p) ∙ sym (is_sum_by gained (λ x. above (f x)) refl (λ _ _. refl) ys) in
      let l : lost xs ≡ lost ys = is_sum_by lost (λ x. under (f x)) refl (λ _ _. refl) xs ∙ sym (sum_by-IsPermutation (λ x. under (f x)) xs ys p) ∙ sym (is_sum_by lost (λ x. under (f x)) refl (λ _ _. refl) ys) in
      as_parts xs ∙ rw (g, l) (sym (as_parts ys))
