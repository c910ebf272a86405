-- Elements of a list that are replaced one by one.
use Rattle.std.proofs.Common.{◌≡◌, ℕ, zero, suc, ◌<◌, List, [], ◌∷◌, length, refl, ap, sym, subst, arith, ◌⊎◌, inl, inr, ⊎_elim}
use Rattle.std.specs.Prelude.{slice_index_or, slice_set}
use Rattle.progress.specs.Kept.{HaveChanged}

pub same_or_not : (n i : ℕ) → (n ≡ i) ⊎ (n ≡ i → ⊥)
same_or_not zero zero = inl refl
same_or_not zero (suc i) = inr (λ e. omega (arith, e))
same_or_not (suc n) zero = inr (λ e. omega (arith, e))
same_or_not (suc n) (suc i) = ⊎_elim (λ e. inl (ap suc e)) (λ f. inr (λ e. f (omega (arith, e)))) (same_or_not n i)

module _ {A : Type 0} where
  pub set_here : (xs : List A) (i : ℕ) (y d : A) → i < length xs → slice_index_or (slice_set xs i y) i d ≡ y
  set_here [] i y d l = absurd (omega (arith, l))
  set_here (x ∷ xs) zero y d l = refl
  set_here (x ∷ xs) (suc i) y d l = set_here xs i y d (omega (arith, l))

  pub set_there : (xs : List A) (i n : ℕ) (y d : A) → (n ≡ i → ⊥) → slice_index_or (slice_set xs i y) n d ≡ slice_index_or xs n d
  set_there [] i n y d f = refl
  set_there (x ∷ xs) zero zero y d f = absurd (f refl)
  set_there (x ∷ xs) zero (suc n) y d f = refl
  set_there (x ∷ xs) (suc i) zero y d f = refl
  set_there (x ∷ xs) (suc i) (suc n) y d f = set_there xs i n y d (λ e. f (ap suc e))

  pub set_length : (xs : List A) (i : ℕ) (y : A) → length (slice_set xs i y) ≡ length xs
  set_length [] i y = refl
  set_length (x ∷ xs) zero y = refl
  set_length (x ∷ xs) (suc i) y = ap suc (set_length xs i y)

  -- what holds of each element, by its number, still does after one is replaced of which it holds
  pub set_all : (P : ℕ → A → Type 0) (xs : List A) (i : ℕ) (y : A) → i < length xs → P i y → ((n : ℕ) (d : A) → n < length xs → P n (slice_index_or xs n d)) → (n : ℕ) (d : A) → n < length (slice_set xs i y) → P n (slice_index_or (slice_set xs i y) n d)
  set_all P xs i y l p all n d m =
      let k = subst (λ z. n < z) (set_length xs i y) m in
      ⊎_elim
      (λ e. subst (λ j. P j (slice_index_or (slice_set xs i y) j d)) (sym e) (subst (P i) (sym (set_here xs i y d l)) p))
      (λ f. subst (P n) (sym (set_there xs i n y d f)) (all n d k))
      (same_or_not n i)

module _ {A : Type 0} (R : ℕ → A → A → Type 0) where
  -- what was done to each element, if all have changed
  pub changed_all : (old new : List A) → HaveChanged R old new (length old) → (n : ℕ) (d : A) → n < length new → R n (slice_index_or old n d) (slice_index_or new n d)
  changed_all old new h n d l = let m = subst (λ z. n < z) h.len l in h.changed n d m m
