-- How often items occur in lists that are made number by number, and what a change at one number
-- makes of that.
use Rattle.std.proofs.Common.{◌≡◌, ℕ, zero, suc, ◌+◌, ◌<◌, ◌≤◌, ◌⊎◌, inl, inr, Bool, List, ◌++◌, length, refl, ap, ◌∙◌, arith}
use Rattle.std.specs.List.{filter, flat_map}
use Rattle.std.proofs.lemmas.Bool.{cases_lt}
use Rattle.std.proofs.lemmas.List.{length-append}
use Rattle.std.proofs.lemmas.List.Elements.{filter-append}
use Rattle.plan.specs.Ancestors.{numbers_below}
use Rattle.outstanding.proofs.LotLemmas.{flat_more}

module _ {X : Type 0} (test : X → Bool) where
  -- how many elements pass the test
  abbrev pub count : List X → ℕ
  count xs = length (filter test xs)

  pub count_both : (xs ys : List X) → count (xs ++ ys) ≡ count xs + count ys
  count_both xs ys = ap length (filter-append test xs ys) ∙ length-append (filter test xs) (filter test ys)

  count_more : (f : ℕ → List X) (n : ℕ) → count (flat_map f (numbers_below (suc n))) ≡ count (flat_map f (numbers_below n)) + count (f n)
  count_more f n = ap count (flat_more f n) ∙ count_both (flat_map f (numbers_below n)) (f n)

  -- two functions that count alike at each number count alike together
  same_below : (f g : ℕ → List X) (n : ℕ) → ((j : ℕ) → j < n → count (g j) ≡ count (f j)) → count (flat_map g (numbers_below n)) ≡ count (flat_map f (numbers_below n))
  same_below f g zero e = refl
  same_below f g (suc n) e =
      let a = count_more f n in
      let b = count_more g n in
      let c = same_below f g n (λ j l. e j (omega (arith, l))) in
      let d = e n (omega arith) in
      omega (arith, a, b, c, d)

  -- two functions that count alike at each number but one differ together as they differ there
  pub one_changed : (f g : ℕ → List X) (i n : ℕ) → i < n → ((j : ℕ) → (i ≡ j → ⊥) → count (g j) ≡ count (f j)) → count (flat_map g (numbers_below n)) + count (f i) ≡ count (flat_map f (numbers_below n)) + count (g i)
  one_changed f g i zero l others = absurd (omega (arith, l))
  one_changed f g i (suc n) l others = by (λ k. one_changed f g i n k others) (cases_lt i n)
    where
      by : (i < n → count (flat_map g (numbers_below n)) + count (f i) ≡ count (flat_map f (numbers_below n)) + count (g i)) → (i < n) ⊎ (n ≤ i) → count (flat_map g (numbers_below (suc n))) + count (f i) ≡ count (flat_map f (numbers_below (suc n))) + count (g i)
      by before (inl k) =
          let a = count_more f n in
          let b = count_more g n in
          let c = before k in
          let d = others n (λ e. omega (arith, k, e)) in
          omega (arith, a, b, c, d)
      by before (inr k) =
          let a = count_more f n in
          let b = count_more g n in
          let c = same_below f g n (λ j m. others j (λ e. omega (arith, k, m, e))) in
          let same : n ≡ i = omega (arith, k, l) in
          let d = ap (λ z. count (f z)) same in
          let e = ap (λ z. count (g z)) same in
          omega (arith, a, b, c, d, e)
