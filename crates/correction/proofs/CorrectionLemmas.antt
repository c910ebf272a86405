-- What is given at one moment.
use Rattle.std.proofs.Common.{◌≡◌, ℕ, zero, suc, add-one, ◌+◌, ◌≤◌, ◌^◌, Bool, true, false, cond, ◌&&◌, List, [], ◌∷◌, ◌++◌, map, take, sym, refl, ap, ◌∙◌, subst, inl, inr, arith, w64}
use Rattle.std.specs.Prelude.{IsTrue, FitsSigned, unsigned_abs, slice_get, IsSomeAnd}
use Rattle.std.specs.List.{filter, list_all}
use Rattle.std.proofs.lemmas.Int.{ints}
use Rattle.std.proofs.lemmas.Bool.{and_parts, and_from, true≢false}
use Rattle.std.proofs.lemmas.List.Recursion.{is_sum_by}
use Rattle.std.proofs.Math.Dec.{ltb}
use borrow.Author.Tests.{ltb-false}
use Rattle.std.proofs.lemmas.Bool.Decides.{Decides-ltb}
use lib.Signed.{mag}
use Rattle.std.proofs.Math.IntN.{ℤ, pos, negsuc, ◌+ℤ◌, neg_ℤ, +ℤ_idl}
use Rattle.update.specs.Bags.{Entry, count_of, Alike, same_row, bag_size}
use Rattle.update.specs.Updates.{entry, as_of, size, total_at, HasLargeTotal}
use Rattle.update.specs.declared.change.Update.{Update}
use Rattle.plan.specs.Reductions.{has_key, sum_of_counts}
use Rattle.plan.specs.Operators.{negated_entry}
use Rattle.plan.proofs.CountLemmas.{row_same, count_of-append, count_of-filter, count_of-negated_entry, weigh_alike, when_zero}
use Rattle.update.proofs.TotalLemmas.{fits_zero}
use Rattle.joined_times.specs.Joined.{of_key}
use Rattle.reducer.specs.Refusals.{HasLargeSum}
use Rattle.correction.specs.Corrections.{IsTooLarge, put, had}
use Rattle.lattice.specs.Times.{Times}

-- ---- sizes

-- the size of entries as a recursion
abbrev pub entry_weight : List Entry → ℕ
entry_weight [] = 0
entry_weight (e ∷ es) = unsigned_abs e.count + entry_weight es

pub entry_weight_is : (es : List Entry) → entry_weight es ≡ bag_size es
entry_weight_is es = is_sum_by entry_weight (λ e. unsigned_abs e.count) refl (λ _ _. refl) es

abbrev pub weight : {T : Type 0} → List (Update T) → ℕ
weight [] = 0
weight (u ∷ us) = unsigned_abs u.diff + weight us

pub weight_is : {T : Type 0} (us : List (Update T)) → weight us ≡ size us
weight_is us = is_sum_by weight (λ u. unsigned_abs u.diff) refl (λ _ _. refl) us

triangle : (a b : ℤ) → unsigned_abs (a +ℤ b) ≤ unsigned_abs a + unsigned_abs b
triangle a b = omega (arith, ints)

-- a count is no larger than the size
pub count_small : (es : List Entry) (row : List ℤ) → unsigned_abs (count_of es row) ≤ entry_weight es
count_small [] row = omega arith
count_small (e ∷ es) row = step (same_row e.row row) (count_small es row)
  where
    step : (b : Bool) → unsigned_abs (count_of es row) ≤ entry_weight es → unsigned_abs (cond b e.count (pos 0) +ℤ count_of es row) ≤ unsigned_abs e.count + entry_weight es
    step true h = let t = triangle e.count (count_of es row) in omega (arith, t, h)
    step false h = subst (λ z. unsigned_abs z ≤ unsigned_abs e.count + entry_weight es) (sym (+ℤ_idl (count_of es row))) (omega (arith, h))

mag_small : (n : ℤ) → mag n ≤ unsigned_abs n
mag_small (pos n) = omega arith
mag_small (negsuc n) = omega arith

pub not_fits : (n : ℤ) → (FitsSigned w64 n → ⊥) → 2 ^ 63 ≤ unsigned_abs n
not_fits n h =
    elim (ltb (mag n) (2 ^ 63)) as (λ b. ltb (mag n) (2 ^ 63) ≡ b → 2 ^ 63 ≤ unsigned_abs n) [
      | true ↦ λ e. absurd (h (record { sfits = (Decides-ltb (mag n) (2 ^ 63)).0 e }))
      | false ↦ λ e. let far : 2 ^ 63 ≤ mag n = ltb-false (mag n) (2 ^ 63) e in let m = mag_small n in omega (arith, far, m)
    ] refl

-- ---- what is too large

-- the sum of the counts is that of every list with the same counts
pub same_sum : (a b : List Entry) → Alike a b → sum_of_counts a ≡ sum_of_counts b
same_sum a b same = weigh_alike (λ row n. n) (λ row m n. refl) a b same

pub large_sum_alike : (a b : List Entry) → Alike a b → HasLargeSum a → HasLargeSum b
large_sum_alike a b same h fits = h (subst (FitsSigned w64) (sym (same_sum a b same)) fits)

-- what is too large is so however it is written
pub too_large_alike : (a b : List Entry) → Alike a b → IsTooLarge a → IsTooLarge b
too_large_alike a b same (inl h) = inl (h.0, λ fits. h.1 (subst (FitsSigned w64) (sym (same h.0)) fits))
too_large_alike a b same (inr h) = inr (large_sum_alike a b same h)

-- ---- entries at a time

at_time : {T : Type 0} → T → Entry → Update T
at_time t e = record { row = e.row; time = t; diff = e.count }

pub put_more : {T : Type 0} (t : T) (bag : List Entry) (i : ℕ) (row : List ℤ) (count : ℤ) → IsSomeAnd (slice_get bag i) (λ e. row ≡ e.row) → IsSomeAnd (slice_get bag i) (λ e. count ≡ e.count)
    → put t (take (i + 1) bag) ≡ put t (take i bag) ++ record { row = row; time = t; diff = count } ∷ []
put_more {T} t bag i row count a b = ap (λ n. put t (take n bag)) (add-one i) ∙ go bag i a b
  where
    go : (bag : List Entry) (i : ℕ) → IsSomeAnd (slice_get bag i) (λ e. row ≡ e.row) → IsSomeAnd (slice_get bag i) (λ e. count ≡ e.count)
        → put t (take (suc i) bag) ≡ put t (take i bag) ++ record { row = row; time = t; diff = count } ∷ []
    go [] i a b = absurd a
    go (e ∷ bag) zero a b = rw (a, b) refl
    go (e ∷ bag) (suc i) a b = ap (λ z. record { row = e.row; time = t; diff = e.count } ∷ z) (go bag i a b)

-- ---- one of many updates

pub weight-append : {T : Type 0} (us vs : List (Update T)) → weight (us ++ vs) ≡ weight us + weight vs
weight-append [] vs = omega arith
weight-append (u ∷ us) vs = let h = weight-append us vs in omega (arith, h)

pub size_left : {T : Type 0} (n : ℕ) (us vs : List (Update T)) → n ≤ size us → n ≤ size (us ++ vs)
size_left n us vs h =
    let a = weight-append us vs in
    let b = weight_is us in
    let c = weight_is (us ++ vs) in
    omega (arith, a, b, c, h)

pub size_right : {T : Type 0} (n : ℕ) (us vs : List (Update T)) → n ≤ size vs → n ≤ size (us ++ vs)
size_right n us vs h =
    let a = weight-append us vs in
    let b = weight_is vs in
    let c = weight_is (us ++ vs) in
    omega (arith, a, b, c, h)

-- ---- what is wanted less what was given

module _ {T : Type 0} (times : Times T) (k : ℕ) (key : List ℤ) where
  pub as_of-keyed : (t : T) (us : List (Update T)) → as_of times t (filter (of_key k key) us) ≡ filter (has_key k key) (as_of times t us)
  as_of-keyed t [] = refl
  as_of-keyed t (u ∷ us) = step (same_row (take k u.row) key) refl (times.below u.time t) refl (as_of-keyed t us)
    where
      step : (c : Bool) → same_row (take k u.row) key ≡ c → (b : Bool) → times.below u.time t ≡ b → as_of times t (filter (of_key k key) us) ≡ filter (has_key k key) (as_of times t us)
          → as_of times t (cond c (u ∷ filter (of_key k key) us) (filter (of_key k key) us)) ≡ filter (has_key k key) (map entry (cond b (u ∷ filter (λ v. times.below v.time t) us) (filter (λ v. times.below v.time t) us)))
      step true e true f h = rw (f, e) (ap (λ z. entry u ∷ z) h)
      step true e false f h = rw f h
      step false e true f h = rw e h
      step false e false f h = h

  -- of a row of the key, what was given
  pub count-had : (t : T) (us : List (Update T)) (row : List ℤ) → same_row (take k row) key ≡ true → count_of (had times k key t us) row ≡ count_of (as_of times t us) row
  count-had t us row d = count_of-filter (λ r. same_row (take k r) key) (as_of times t us) row ∙ ap (λ b. cond b (count_of (as_of times t us) row) (pos 0)) d

  pub had-alike : (t : T) (us vs : List (Update T)) → Alike (as_of times t us) (as_of times t vs) → Alike (had times k key t us) (had times k key t vs)
  had-alike t us vs h row =
      count_of-filter (λ r. same_row (take k r) key) (as_of times t us) row
      ∙ (ap (λ z. cond (same_row (take k row) key) z (pos 0)) (h row) ∙ sym (count_of-filter (λ r. same_row (take k r) key) (as_of times t vs) row))

  pub as_of-put : (t : T) → times.below t t ≡ true → (es : List Entry) → as_of times t (put t es) ≡ es
  as_of-put t o [] = refl
  as_of-put t o (e ∷ es) = rw o (ap (λ z. e ∷ z) (as_of-put t o es))

  total-put : (t s : T) (row : List ℤ) (es : List Entry) → total_at times row s (put t es) ≡ cond (times.below t s && times.below s t) (count_of es row) (pos 0)
  total-put t s row [] = sym (when_zero (times.below t s && times.below s t))
  total-put t s row (e ∷ es) = rw (total-put t s row es) (step (same_row e.row row) (times.below t s && times.below s t))
    where
      step : (c b : Bool) → cond (c && b) e.count (pos 0) +ℤ cond b (count_of es row) (pos 0) ≡ cond b (cond c e.count (pos 0) +ℤ count_of es row) (pos 0)
      step true true = refl
      step true false = refl
      step false true = refl
      step false false = refl

  -- a row of another key counts 0
  pub count-elsewhere : (es : List Entry) → IsTrue (list_all (has_key k key) es) → (row : List ℤ) → same_row (take k row) key ≡ false → count_of es row ≡ pos 0
  count-elsewhere [] a row d = refl
  count-elsewhere (e ∷ es) a row d =
      let p = and_parts (same_row (take k e.row) key) (list_all (has_key k key) es) a in
      step (same_row e.row row) refl p.0 (count-elsewhere es p.1 row d)
    where
      step : (c : Bool) → same_row e.row row ≡ c → same_row (take k e.row) key ≡ true → count_of es row ≡ pos 0 → cond c e.count (pos 0) +ℤ count_of es row ≡ pos 0
      step true e2 w h = absurd (true≢false (sym w ∙ (ap (λ z. same_row (take k z) key) (row_same e.row row e2) ∙ d)))
      step false e2 w h = rw h refl

  abbrev pub change : List Entry → T → List (Update T) → List Entry
  change want t given = want ++ map negated_entry (had times k key t given)

  pub keyed-filtered : (es : List Entry) → IsTrue (list_all (has_key k key) (map negated_entry (filter (has_key k key) es)))
  keyed-filtered [] = refl
  keyed-filtered (e ∷ es) = step (same_row (take k e.row) key) refl (keyed-filtered es)
    where
      step : (c : Bool) → same_row (take k e.row) key ≡ c → IsTrue (list_all (has_key k key) (map negated_entry (filter (has_key k key) es))) → IsTrue (list_all (has_key k key) (map negated_entry (cond c (e ∷ filter (has_key k key) es) (filter (has_key k key) es))))
      step true f h = and_from (same_row (take k e.row) key) (list_all (has_key k key) (map negated_entry (filter (has_key k key) es))) f h
      step false f h = h

  all-append : (p : Entry → Bool) (xs ys : List Entry) → IsTrue (list_all p xs) → IsTrue (list_all p ys) → IsTrue (list_all p (xs ++ ys))
  all-append p [] ys a b = b
  all-append p (x ∷ xs) ys a b = let h = and_parts (p x) (list_all p xs) a in and_from (p x) (list_all p (xs ++ ys)) h.0 (all-append p xs ys h.1 b)

  pub change-keyed : (want : List Entry) (t : T) (given : List (Update T)) → IsTrue (list_all (has_key k key) want) → IsTrue (list_all (has_key k key) (change want t given))
  change-keyed want t given a = all-append (has_key k key) want (map negated_entry (had times k key t given)) a (keyed-filtered (as_of times t given))

  pub change-count : (want : List Entry) (t : T) (given : List (Update T)) (row : List ℤ) → same_row (take k row) key ≡ true → count_of (change want t given) row ≡ count_of want row +ℤ neg_ℤ (count_of (as_of times t given) row)
  change-count want t given row d =
      count_of-append want (map negated_entry (had times k key t given)) row
      ∙ ap (λ z. count_of want row +ℤ z) (count_of-negated_entry (had times k key t given) row ∙ ap neg_ℤ (count-had t given row d))

  -- where a total of a draft of the change is too large, it is that of a row of the key
  pub large_draft : (es fs : List Entry) (t : T) → Alike es fs → IsTrue (list_all (has_key k key) fs) → HasLargeTotal times (put t es) → (row : List ℤ) × (same_row (take k row) key ≡ true) × (FitsSigned w64 (count_of es row) → ⊥)
  large_draft es fs t same a h = step (same_row (take k h.0) key) refl (times.below t h.1 && times.below h.1 t) refl
    where
      large : FitsSigned w64 (cond (times.below t h.1 && times.below h.1 t) (count_of es h.0) (pos 0)) → ⊥
      large f = h.2 (subst (FitsSigned w64) (sym (total-put t h.1 h.0 es)) f)

      step : (d : Bool) → same_row (take k h.0) key ≡ d → (b : Bool) → (times.below t h.1 && times.below h.1 t) ≡ b → (row : List ℤ) × (same_row (take k row) key ≡ true) × (FitsSigned w64 (count_of es row) → ⊥)
      step d e false f = absurd (large (subst (λ b. FitsSigned w64 (cond b (count_of es h.0) (pos 0))) (sym f) fits_zero))
      step true e true f = (h.0, e, λ g. large (subst (λ b. FitsSigned w64 (cond b (count_of es h.0) (pos 0))) (sym f) g))
      step false e true f = absurd (large (subst (λ b. FitsSigned w64 (cond b (count_of es h.0) (pos 0))) (sym f) (subst (FitsSigned w64) (sym (same h.0 ∙ count-elsewhere fs a h.0 e)) fits_zero)))

  abbrev pub at_key : T → List ℤ → T → Bool
  at_key t row s = same_row (take k row) key && (times.below s t && times.below t s)

  pub put-at : (t : T) → times.below t t ≡ true → (es : List Entry) → IsTrue (list_all (has_key k key) es) → IsTrue (list_all (λ u. at_key t u.row u.time) (put t es))
  put-at t o [] a = refl
  put-at t o (e ∷ es) a =
      let h = and_parts (same_row (take k e.row) key) (list_all (has_key k key) es) a in
      and_from (at_key t e.row t) (list_all (λ u. at_key t u.row u.time) (put t es)) (and_from (same_row (take k e.row) key) (times.below t t && times.below t t) h.0 (and_from (times.below t t) (times.below t t) o o)) (put-at t o es h.1)
