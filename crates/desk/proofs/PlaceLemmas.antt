-- Lists by node of which one place has changed, or which have grown by one.
use Rattle.std.proofs.Common.{◌≡◌, ◌≢◌, ◌⊎◌, ℕ, zero, suc, ◌<◌, List, [], ◌∷◌, ◌++◌, length, set, get_or, Option, Some, None, inl, inr, ⊎_elim, arith, refl, sym, ap, ◌∙◌}
use Rattle.std.specs.List.{slice_get}
use Rattle.std.proofs.lemmas.Option.{get_or_from_slice_get, same_Some, slice_get_read}

-- ---- one place has changed

module _ {A : Type 0} where
  pub get_set : (xs : List A) (n m : ℕ) (x : A) → m ≢ n → slice_get (set xs n x) m ≡ slice_get xs m
  get_set [] n m x d = refl
  get_set (y ∷ xs) zero zero x d = absurd (d refl)
  get_set (y ∷ xs) zero (suc m) x d = refl
  get_set (y ∷ xs) (suc n) zero x d = refl
  get_set (y ∷ xs) (suc n) (suc m) x d = get_set xs n m x (λ e. d (ap suc e))

  pub get_own : (xs : List A) (n : ℕ) (x y : A) → slice_get xs n ≡ Some y → slice_get (set xs n x) n ≡ Some x
  get_own [] n x y e = cc
  get_own (z ∷ xs) zero x y e = refl
  get_own (z ∷ xs) (suc n) x y e = get_own xs n x y e

  pub get_within : (xs : List A) (n : ℕ) (x : A) → n < length xs → slice_get (set xs n x) n ≡ Some x
  get_within [] n x l = absurd (omega (arith, l))
  get_within (z ∷ xs) zero x l = refl
  get_within (z ∷ xs) (suc n) x l = get_within xs n x (omega (arith, l))

  pub length_set : (xs : List A) (n : ℕ) (x : A) → length (set xs n x) ≡ length xs
  length_set [] n x = refl
  length_set (z ∷ xs) zero x = refl
  length_set (z ∷ xs) (suc n) x = ap suc (length_set xs n x)

  -- a place that is written as it was
  pub set_same : (xs : List A) (i : ℕ) (x : A) → x ≡ get_or xs i x → set xs i x ≡ xs
  set_same [] i x e = refl
  set_same (y ∷ xs) zero x e = ap (λ z. z ∷ xs) e
  set_same (y ∷ xs) (suc i) x e = ap (λ zs. y ∷ zs) (set_same xs i x e)

  -- what is read at a place of a list
  pub read_at : (xs : List A) (i n : ℕ) (x : A) → i ≡ n → n < length xs → x ≡ get_or xs i x → slice_get xs n ≡ Some x
  read_at xs i n x same within is = slice_get_read xs (length xs) n x refl within (is ∙ ap (λ j. get_or xs j x) same)

  -- the same, if something is known to lie there
  pub found_at : (xs : List A) (i n : ℕ) (x y : A) → i ≡ n → x ≡ get_or xs i x → slice_get xs n ≡ Some y → x ≡ y
  found_at xs i n x y same is there = is ∙ (ap (λ j. get_or xs j x) same ∙ get_or_from_slice_get xs n y x there)

  pub some_same : (x y : A) → Some (Some x) ≡ Some (Some y) → x ≡ y
  some_same x y e = same_Some x y (same_Some (Some x) (Some y) e)

  -- the entry at one place of a list is one thing
  pub one_entry : (xs : List (Option A)) (n : ℕ) (x y : A) → slice_get xs n ≡ Some (Some x) → slice_get xs n ≡ Some (Some y) → x ≡ y
  one_entry xs n x y e f = some_same x y (sym e ∙ f)

-- ---- one entry more

pub get_kept : {A : Type 0} (xs ys : List A) (i : ℕ) (x : A) → slice_get xs i ≡ Some x → slice_get (xs ++ ys) i ≡ Some x
get_kept [] ys i x e = cc
get_kept (z ∷ xs) ys zero x e = e
get_kept (z ∷ xs) ys (suc i) x e = get_kept xs ys i x e

pub get_last : {A : Type 0} (xs : List A) (x : A) → slice_get (xs ++ x ∷ []) (length xs) ≡ Some x
get_last [] x = refl
get_last (z ∷ xs) x = get_last xs x

pub get_inside : {A : Type 0} (xs : List A) (i : ℕ) (x : A) → slice_get xs i ≡ Some x → i < length xs
get_inside [] i x e = cc
get_inside (z ∷ xs) zero x e = omega arith
get_inside (z ∷ xs) (suc i) x e = let l = get_inside xs i x e in omega (arith, l)

-- an entry of a list with one more at the end is an old one or the new one
pub get_either : {A : Type 0} (xs : List A) (y : A) (i : ℕ) (x : A) → slice_get (xs ++ y ∷ []) i ≡ Some x → (slice_get xs i ≡ Some x) ⊎ ((i ≡ length xs) × (y ≡ x))
get_either [] y zero x e = inr (refl, same_Some y x e)
get_either [] y (suc i) x e = absurd (nothing e)
  where
    nothing : None ≡ Some x → ⊥
    nothing z = cc
get_either (z ∷ xs) y zero x e = inl e
get_either (z ∷ xs) y (suc i) x e = ⊎_elim (λ a. inl a) (λ b. inr (ap suc b.0, b.1)) (get_either xs y i x e)

pub length_more : {A : Type 0} (xs : List A) (x : A) → length (xs ++ x ∷ []) ≡ suc (length xs)
length_more [] x = refl
length_more (z ∷ xs) x = ap suc (length_more xs x)
