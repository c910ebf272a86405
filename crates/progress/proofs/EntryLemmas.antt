-- What an edit of a list of entries makes of what is counted.
use Rattle.std.proofs.Common.{◌≡◌, ℕ, zero, suc, ◌+◌, ◌-◌, ◌<◌, List, [], ◌∷◌, ◌++◌, length, refl, ap, sym, ◌∙◌, arith, ⊎_elim}
use Rattle.std.specs.Prelude.{replicate, slice_index_or, slice_set}
use Rattle.std.specs.List.{filter, remove}
use Rattle.std.proofs.lemmas.List.{length-append, length-replicate}
use Rattle.antichain.proofs.Lists.{Among}
use Rattle.progress.specs.CountLists.{CountAlike, listed}
use Rattle.progress.proofs.CountListLemmas.{among_both, among_copies, carried}

module _ {A : Type 0} where
  -- a number that is one more counts its item once more
  raised : (es : List (A × ℕ)) (i : ℕ) (k : A) (n : ℕ) → i < length es → CountAlike (listed (slice_set es i (k, suc n))) (k ∷ listed (slice_set es i (k, n)))
  raised [] i k n l test = absurd (omega (arith, l))
  raised (e ∷ es) zero k n l test = refl
  raised (e ∷ es) (suc i) k n l test = carried (e.0 ∷ replicate e.1 e.0) (listed (slice_set es i (k, suc n))) (listed (slice_set es i (k, n))) k (raised es i k n (omega (arith, l))) test

  -- what is read at one number twice is the same
  pub same_entry : (es : List (A × ℕ)) (i : ℕ) (a b : A × ℕ) → i < length es → a ≡ slice_index_or es i a → b ≡ slice_index_or es i b → a ≡ b
  same_entry [] i a b l h k = absurd (omega (arith, l))
  same_entry (e ∷ es) zero a b l h k = h ∙ sym k
  same_entry (e ∷ es) (suc i) a b l h k = same_entry es i a b (omega (arith, l)) h k

  -- an entry that stays what it is
  set_still : (es : List (A × ℕ)) (i : ℕ) (a : A × ℕ) → a ≡ slice_index_or es i a → slice_set es i a ≡ es
  set_still [] i a h = refl
  set_still (e ∷ es) zero a h = ap (λ (z : A × ℕ). z ∷ es) h
  set_still (e ∷ es) (suc i) a h = ap (λ zs. e ∷ zs) (set_still es i a h)

  -- the entry of an item, with a number that is one more or one less, counts it once more or once
  -- less
  module _ (es : List (A × ℕ)) (i : ℕ) (k : A) (a : A × ℕ) (l : i < length es) (h : a ≡ slice_index_or es i a) (is : a.0 ≡ k) where
    pub one_up : CountAlike (listed (slice_set es i (a.0, a.1 + 1))) (k ∷ listed es)
    one_up test =
        let next : a.1 + 1 ≡ suc a.1 = omega arith in
        ap (λ m. length (filter test (listed (slice_set es i (a.0, m))))) next
        ∙ (raised es i a.0 a.1 l test
        ∙ (ap (λ fs. length (filter test (a.0 ∷ listed fs))) (set_still es i a h)
        ∙ ap (λ z. length (filter test (z ∷ listed es))) is))

    pub one_down : 0 < a.1 → CountAlike (k ∷ listed (slice_set es i (a.0, a.1 - 1))) (listed es)
    one_down some test =
        let next : suc (a.1 - 1) ≡ a.1 = omega (arith, some) in
        ap (λ z. length (filter test (z ∷ listed (slice_set es i (a.0, a.1 - 1))))) (sym is)
        ∙ (sym (raised es i a.0 (a.1 - 1) l test)
        ∙ (ap (λ m. length (filter test (listed (slice_set es i (a.0, m))))) next
        ∙ ap (λ fs. length (filter test (listed fs))) (set_still es i a h)))

  -- without its entry, an item that was counted once is counted once less
  pub let_go : (es : List (A × ℕ)) (i : ℕ) (k : A) (a : A × ℕ) → i < length es → a ≡ slice_index_or es i a → a.0 ≡ k → a.1 ≡ 0 → CountAlike (k ∷ listed (remove es i)) (listed es)
  let_go [] i k a l h is none test = absurd (omega (arith, l))
  let_go (e ∷ es) zero k a l h is none test =
      sym (λ j. length (filter test (is j ∷ (replicate (none j) (is j) ++ listed es))))
      ∙ ap (λ (z : A × ℕ). length (filter test (listed (z ∷ es)))) h
  let_go (e ∷ es) (suc i) k a l h is none test = sym (carried (e.0 ∷ replicate e.1 e.0) (listed es) (listed (remove es i)) k (λ p. sym (let_go es i k a (omega (arith, l)) h is none p)) test)

  -- an entry behind the others counts its item once more
  pub added : (es : List (A × ℕ)) (k : A) → CountAlike (listed (es ++ (k, 0) ∷ [])) (k ∷ listed es)
  added [] k test = refl
  added (e ∷ es) k test = carried (e.0 ∷ replicate e.1 e.0) (listed (es ++ (k, 0) ∷ [])) (listed es) k (added es k) test

  -- a number is less than how many items are counted
  pub number_fits : (es : List (A × ℕ)) (i : ℕ) (d : A × ℕ) → i < length es → (slice_index_or es i d).1 < length (listed es)
  number_fits [] i d l = absurd (omega (arith, l))
  number_fits (e ∷ es) zero d l =
      let long = length-append (replicate e.1 e.0) (listed es) in
      let many = length-replicate e.1 e.0 in
      omega (arith, long, many)
  number_fits (e ∷ es) (suc i) d l =
      let less = number_fits es i d (omega (arith, l)) in
      let long = length-append (replicate e.1 e.0) (listed es) in
      omega (arith, less, long)

  -- an item that has no entry is not counted
  pub no_entry : (es : List (A × ℕ)) (k : A) → ((i : ℕ) (d : A × ℕ) → i < length es → (slice_index_or es i d).0 ≡ k → ⊥) → Among k (listed es) → ⊥
  no_entry [] k none m = m
  no_entry (e ∷ es) k none m =
      ⊎_elim
      (λ s. none 0 e (omega arith) s)
      (λ s. ⊎_elim (λ a. none 0 e (omega arith) (among_copies e.1 e.0 k a)) (λ b. no_entry es k (λ i d l h. none (suc i) d (omega (arith, l)) h) b) (among_both (replicate e.1 e.0) (listed es) k s))
      m
