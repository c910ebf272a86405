-- The numbers below a number.
use Rattle.std.proofs.Common.{◌≡◌, ℕ, zero, suc, ◌<◌, List, [], ◌∷◌, ◌++◌, length, get_or, refl, ap, sym, ◌∙◌, subst, arith, inl, inr, ⊎_elim}
use Rattle.std.proofs.lemmas.Bool.{cases_lt}
use Rattle.antichain.proofs.Lists.{Among}
use Rattle.std.proofs.lemmas.List.{length-append, get_or_at, get_or_append_left}
use Rattle.plan.specs.Ancestors.{numbers_below}

-- there are n numbers below n
pub numbers_long : (n : ℕ) → length (numbers_below n) ≡ n
numbers_long zero = refl
numbers_long (suc n) = let e = numbers_long n in length-append (numbers_below n) (n ∷ []) ∙ omega (arith, e)

-- the number at a position is the position
pub number_at : (n k d : ℕ) → k < n → get_or (numbers_below n) k d ≡ k
number_at zero k d l = absurd (omega (arith, l))
number_at (suc n) k d l =
    ⊎_elim
    (λ m. get_or_append_left (numbers_below n) (n ∷ []) d k (subst (λ z. k < z) (sym (numbers_long n)) m) ∙ number_at n k d m)
    (λ m.
    let same : k ≡ n = omega (arith, l, m) in
    ap (λ j. get_or (numbers_below n ++ n ∷ []) j d) same ∙ (get_or_at (numbers_below n) n [] d n (numbers_long n) ∙ sym same))
    (cases_lt k n)

-- what is among the numbers below n is below n
pub number_below : (n i : ℕ) → Among i (numbers_below n) → i < n
number_below zero i m = absurd m
number_below (suc n) i m = parts (numbers_below n) (number_below n i) m
  where
    parts : (xs : List ℕ) → (Among i xs → i < n) → Among i (xs ++ n ∷ []) → i < suc n
    parts [] h m = ⊎_elim (λ e. omega arith) (λ k. absurd k) m
    parts (x ∷ xs) h m = ⊎_elim (λ e. let r = h (inl e) in omega arith) (λ k. parts xs (λ j. h (inr j)) k) m

-- what is below n is among the numbers below n
pub numbered : (n i : ℕ) → i < n → Among i (numbers_below n)
numbered zero i l = absurd (omega (arith, l))
numbered (suc n) i l =
    ⊎_elim
    (λ m. more (numbers_below n) (numbered n i m))
    (λ m. let same : n ≡ i = omega (arith, l, m) in last (numbers_below n) same)
    (cases_lt i n)
  where
    last : (xs : List ℕ) → n ≡ i → Among i (xs ++ n ∷ [])
    last [] e = inl e
    last (x ∷ xs) e = inr (last xs e)

    more : (xs : List ℕ) → Among i xs → Among i (xs ++ n ∷ [])
    more [] a = absurd a
    more (x ∷ xs) a = ⊎_elim (λ e. inl e) (λ b. inr (more xs b)) a
