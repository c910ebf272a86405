-- Counts: what an item more or less makes of them, and that frontiers depend on counts alone.
use Rattle.std.proofs.Common.{◌≡◌, ℕ, zero, suc, ◌<◌, Bool, true, false, cond, ◌||◌, List, [], ◌∷◌, ◌++◌, length, refl, ap, sym, ◌∙◌, arith}
use Rattle.std.specs.List.{filter, list_any, remove}
use Rattle.std.specs.Prelude.{slice_index_or}
use Rattle.std.proofs.lemmas.List.Folds.{list_any-append}
use Rattle.lattice.specs.Times.{Times}
use Rattle.lattice.specs.Frontiers.{is_beyond}
use Rattle.progress.specs.declared.place.Place.{Place}
use Rattle.progress.specs.declared.counted.Counted.{Counted}
use Rattle.progress.specs.CountLists.{CountAlike}
use Rattle.progress.specs.Tallies.{SameCounts, times_where}

pub one_more : {A : Type 0} (test : A → Bool) (xs : List A) (x : A) → length (filter test (x ∷ xs)) ≡ cond (test x) (suc (length (filter test xs))) (length (filter test xs))
one_more test xs x = elim (test x) as (λ c. length (cond c (x ∷ filter test xs) (filter test xs)) ≡ cond c (suc (length (filter test xs))) (length (filter test xs))) [
  | true ↦ refl
  | false ↦ refl
]

pub swapped : (a b : Bool) (n : ℕ) → cond a (suc (cond b (suc n) n)) (cond b (suc n) n) ≡ cond b (suc (cond a (suc n) n)) (cond a (suc n) n)
swapped true true n = refl
swapped true false n = refl
swapped false true n = refl
swapped false false n = refl

-- a number is not 0
abbrev some : ℕ → Bool
some zero = false
some (suc n) = true

module _ {A : Type 0} where
  -- an item behind the others counts like one in front of them
  pub pushed : (xs : List A) (x : A) → CountAlike (xs ++ x ∷ []) (x ∷ xs)
  pushed [] x test = refl
  pushed (y ∷ ys) x test =
      one_more test (ys ++ x ∷ []) y
      ∙ (ap (λ n. cond (test y) (suc n) n) (pushed ys x test ∙ one_more test ys x)
      ∙ (swapped (test y) (test x) (length (filter test ys))
      ∙ (sym (ap (λ n. cond (test x) (suc n) n) (one_more test ys y))
      ∙ sym (one_more test (y ∷ ys) x))))

  -- an item that was removed is counted once less
  pub removed : (xs : List A) (i : ℕ) (x : A) → i < length xs → x ≡ slice_index_or xs i x → CountAlike (x ∷ remove xs i) xs
  removed [] i x l e test = absurd (omega (arith, l))
  removed (y ∷ ys) zero x l e test = ap (λ z. length (filter test (z ∷ ys))) e
  removed (y ∷ ys) (suc i) x l e test =
      one_more test (y ∷ remove ys i) x
      ∙ (ap (λ n. cond (test x) (suc n) n) (one_more test (remove ys i) y)
      ∙ (swapped (test x) (test y) (length (filter test (remove ys i)))
      ∙ (sym (ap (λ n. cond (test y) (suc n) n) (one_more test (remove ys i) x))
      ∙ (ap (λ n. cond (test y) (suc n) n) (removed ys i x (omega (arith, l)) e test)
      ∙ sym (one_more test ys y)))))

  -- the order of two items does not count
  pub exchanged : (xs : List A) (x y : A) → CountAlike (x ∷ (y ∷ xs)) (y ∷ (x ∷ xs))
  exchanged xs x y test =
      one_more test (y ∷ xs) x
      ∙ (ap (λ n. cond (test x) (suc n) n) (one_more test xs y)
      ∙ (swapped (test x) (test y) (length (filter test xs))
      ∙ (sym (ap (λ n. cond (test y) (suc n) n) (one_more test xs x))
      ∙ sym (one_more test (x ∷ xs) y))))

  -- one item more in front of lists that count alike
  pub more_alike : (xs ys : List A) (x : A) → CountAlike xs ys → CountAlike (x ∷ xs) (x ∷ ys)
  more_alike xs ys x same test = one_more test xs x ∙ (ap (λ n. cond (test x) (suc n) n) (same test) ∙ sym (one_more test ys x))

module _ {T : Type 0} where
  -- a time counts for a frontier if some item says so
  pub any_where : (test : Place → Bool) (p : T → Bool) (xs : List (Counted T)) → list_any p (times_where test xs) ≡ list_any (λ i. cond (test i.place) (p i.time) false) xs
  any_where test p [] = refl
  any_where test p (x ∷ xs) =
      list_any-append p (cond (test x.place) (x.time ∷ []) []) (times_where test xs)
      ∙ ((λ k. step (test x.place) k || any_where test p xs k))
    where
      or_false : (b : Bool) → (b || false) ≡ b
      or_false true = refl
      or_false false = refl

      step : (c : Bool) → list_any p (cond c (x.time ∷ []) []) ≡ cond c (p x.time) false
      step true = or_false (p x.time)
      step false = refl

  -- some item passes a test if and only if it is not so that none does
  some_counted : (test : Counted T → Bool) (xs : List (Counted T)) → list_any test xs ≡ some (length (filter test xs))
  some_counted test [] = refl
  some_counted test (x ∷ xs) = ap (λ b. test x || b) (some_counted test xs) ∙ (step (test x) ∙ sym (ap some (one_more test xs x)))
    where
      step : (b : Bool) → (b || some (length (filter test xs))) ≡ some (cond b (suc (length (filter test xs))) (length (filter test xs)))
      step true = refl
      step false = refl

  -- frontiers depend on the counts alone
  pub counts_tell : (times : Times T) (test : Place → Bool) (xs ys : List (Counted T)) → SameCounts xs ys → (t : T) → is_beyond times (times_where test xs) t ≡ is_beyond times (times_where test ys) t
  counts_tell times test xs ys same t =
      let passes = λ (i : Counted T). cond (test i.place) (times.below i.time t) false in
      any_where test (λ f. times.below f t) xs
      ∙ (some_counted passes xs ∙ (ap some (same passes) ∙ (sym (some_counted passes ys) ∙ sym (any_where test (λ f. times.below f t) ys))))

  -- a test that some item of a list passes is passed by some item of each list that counts alike
  pub any_alike : (test : Counted T → Bool) (xs ys : List (Counted T)) → SameCounts xs ys → list_any test xs ≡ list_any test ys
  any_alike test xs ys same = some_counted test xs ∙ (ap some (same test) ∙ sym (some_counted test ys))

  -- lists that count alike with one item more do so without it
  pub cancelled : (xs ys : List (Counted T)) (x : Counted T) → SameCounts (x ∷ xs) (x ∷ ys) → SameCounts xs ys
  cancelled xs ys x same test = less (test x) (length (filter test xs)) (length (filter test ys)) (sym (one_more test xs x) ∙ (same test ∙ one_more test ys x))
    where
      less : (b : Bool) (m n : ℕ) → cond b (suc m) m ≡ cond b (suc n) n → m ≡ n
      less true m n e = omega (arith, e)
      less false m n e = e

  -- if an item is there and changes into another, then some item passes a test that the other
  -- passes
  pub any_changed : (test : Counted T → Bool) (old new : List (Counted T)) (x y : Counted T) → SameCounts (x ∷ new) (y ∷ old) → test y ≡ true → (test x ≡ true → list_any test old ≡ true) → list_any test new ≡ true
  any_changed test old new x y same e h =
      some_counted test new
      ∙ more (test x) refl (length (filter test new)) (length (filter test old)) (sym (one_more test new x) ∙ (same test ∙ (one_more test old y ∙ ap (λ b. cond b (suc (length (filter test old))) (length (filter test old))) e)))
      (λ q. sym (some_counted test old) ∙ h q)
    where
      more : (b : Bool) → test x ≡ b → (m n : ℕ) → cond b (suc m) m ≡ suc n → (test x ≡ true → some n ≡ true) → some m ≡ true
      more true q m n k f = ap some (pred m n k) ∙ f q
        where
          pred : (m n : ℕ) → suc m ≡ suc n → m ≡ n
          pred m n k = omega (arith, k)
      more false q m n k f = ap some k

pub or_swap : (a b c : Bool) → ((a || b) || c) ≡ (b || (a || c))
or_swap true true c = refl
or_swap true false c = refl
or_swap false b c = refl

-- the step that inserts the time of one more item, if it counts
pub insert_step : {T : Type 0} (times : Times T) (test : Place → Bool) (found more : List T) (x : Counted T) (rest : List (Counted T)) (t : T) (all : Bool)
    → (is_beyond times found t || is_beyond times (times_where test (x ∷ rest)) t) ≡ all
    → is_beyond times more t ≡ cond (test x.place) (times.below x.time t || is_beyond times found t) (is_beyond times found t)
    → (is_beyond times more t || is_beyond times (times_where test rest) t) ≡ all
insert_step times test found more x rest t all so_far step =
    ap (λ b. b || is_beyond times (times_where test rest) t) step
    ∙ (by (test x.place) (times.below x.time t) (is_beyond times found t) (is_beyond times (times_where test rest) t)
    ∙ (ap (λ b. is_beyond times found t || b) (sym (one times test x rest t)) ∙ so_far))
  where
    by : (c a b r : Bool) → (cond c (a || b) b || r) ≡ (b || cond c (a || r) r)
    by true a b r = or_swap a b r
    by false a b r = refl

    one : {T : Type 0} (times : Times T) (test : Place → Bool) (x : Counted T) (rest : List (Counted T)) (t : T) → is_beyond times (times_where test (x ∷ rest)) t ≡ cond (test x.place) (times.below x.time t || is_beyond times (times_where test rest) t) (is_beyond times (times_where test rest) t)
    one times test x rest t = elim (test x.place) as (λ c. list_any (λ f. times.below f t) (cond c (x.time ∷ []) [] ++ times_where test rest) ≡ cond c (times.below x.time t || is_beyond times (times_where test rest) t) (is_beyond times (times_where test rest) t)) [
      | true ↦ refl
      | false ↦ refl
    ]
