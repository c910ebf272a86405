-- What gathering the groups of a list makes of it, and what a sort leaves as it was.
use Rattle.std.proofs.Common.{◌≡◌, ℕ, ◌+◌, ◌≤◌, Bool, true, false, cond, ◌&&◌, ◌↔◌, List, [], ◌∷◌, ◌++◌, IsTrue, get_or, ℤ, pos, ◌+ℤ◌, refl, sym, ◌∙◌, ap, subst, arith, w64, inr}
use Rattle.std.specs.Prelude.{FitsSigned, unsigned_abs}
use Rattle.std.specs.List.{AllByRecursion, list_all}
use Rattle.std.specs.List.Sorted.{IsPermutation, IsSortedBy}
use Rattle.std.specs.Cmp.{IsTotalOrder}
use Rattle.std.specs.Cmp.Lexicographic.{slice_cmp, lists_total, lists_ties}
use Rattle.std.specs.Ordering.{int_cmp, int_eq, is_eq, is_lt, ordering_then}
use Rattle.std.proofs.lemmas.Cmp.{then_total, on_total, int_cmp_total}
use Rattle.std.proofs.lemmas.Bool.{true≢false}
use Rattle.std.proofs.lemmas.Int.{ints}
use Rattle.std.proofs.lemmas.List.Elements.{recursion_from_All, All-from_recursion}
use Rattle.std.proofs.lemmas.List.Sorted.{sum_by-IsPermutation, All-permutation}
use Rattle.std.proofs.lemmas.List.Sums.{AllPass-from_list_all, list_all-from_AllPass}
use Rattle.std.proofs.lemmas.List.Recursion.{is_sum_by}
use Rattle.std.specs.declared.cmp.Ordering.{Ordering}
use Rattle.std.specs.Result.{IfOk, IfErr, IsErr, OnOk}
use Rattle.std.specs.declared.result.Result.{Result}
use Rattle.std.specs.declared.result.Result.TheVariants.{Ok, Err}
use Rattle.std.specs.declared.cmp.Ordering.TheVariants.{Less, Equal, Greater}
use Rattle.lattice.specs.Times.{Times}
use Rattle.lattice.specs.Order.{PartialOrderLaws}
use Rattle.update.specs.declared.change.Update.{Update}
use Rattle.update.specs.Bags.{same_row, Alike}
use Rattle.update.specs.Refusals.{IsMemoryOrOverflow}
use Rattle.update.specs.declared.refusal.Refusal.{Refusal}
use Rattle.update.specs.declared.refusal.Refusal.TheVariants.{Overflow}
use Rattle.update.specs.Updates.{total_where, total_at, as_of, by_time_then_row, AreApart, HasLargeTotal, size}
use Rattle.update.specs.Groups.{is_same, group_sum, group_sums, groups_of, groups_from, AllFit, IsGrouped, OrdersGroups}
use Rattle.update.proofs.SumLemmas.{total_by-permutation}
use Rattle.update.proofs.UniqueLemmas.{count_as_of}
use Rattle.update.proofs.GroupLemmas.{AreNeighbours, grouped_neighbours, left_all, left_apart, left_total}
use Rattle.update.proofs.TotalLemmas.{totals_fit, some_large, fits_zero}

-- the order by which lists are sorted: by time, then by row, then by difference
abbrev by_all : {T : Type 0} → (T → T → Ordering) → Update T → Update T → Ordering
by_all cmp u v = ordering_then (cmp u.time v.time) (ordering_then (slice_cmp int_cmp u.row v.row) (int_cmp u.diff v.diff))

not_before : (a b c : Ordering) → is_lt (ordering_then a (ordering_then b c)) ≡ false → is_lt (ordering_then a b) ≡ false
not_before Less b c e = e
not_before Equal Less c e = e
not_before Equal Equal c e = refl
not_before Equal Greater c e = refl
not_before Greater b c e = refl

both_equal : (a b : Ordering) → is_eq (ordering_then a b) ≡ (is_eq a && is_eq b)
both_equal Less b = refl
both_equal Equal b = refl
both_equal Greater b = refl

module _ {T : Type 0} {cmp : T → T → Ordering} (total : IsTotalOrder cmp) where
  -- the order of consolidated lists tells rows and times apart
  pub by_time_orders : OrdersGroups cmp (by_time_then_row cmp)
  by_time_orders = record {
    total = then_total (on_total (λ u. u.time) total) (on_total (λ u. u.row) (lists_total int_cmp_total));
    ties = λ u v.
        both_equal (cmp u.time v.time) (slice_cmp int_cmp u.row v.row)
        ∙ ap (λ b. is_eq (cmp u.time v.time) && b) (sym (lists_ties int_cmp (λ x y. refl) u.row v.row));
  }

  -- a list in the order of updates is in that order too
  pub sorted_by_time : (xs : List (Update T)) → IsSortedBy (λ x y. is_lt (by_all cmp x y)) xs → IsSortedBy (λ x y. is_lt (by_time_then_row cmp x y)) xs
  sorted_by_time xs s k d a b =
      let x = get_or xs k d in
      let y = get_or xs (k + 1) d in
      not_before (cmp y.time x.time) (slice_cmp int_cmp y.row x.row) (int_cmp y.diff x.diff) (s k d a b)

-- the size, by recursion
abbrev pub summed_size : {T : Type 0} → List (Update T) → ℕ
summed_size [] = 0
summed_size (u ∷ us) = unsigned_abs u.diff + summed_size us

-- the size by recursion is the size; sums over lists use the recursion
pub summed_size_is : {T : Type 0} (us : List (Update T)) → summed_size us ≡ size us
summed_size_is us = is_sum_by summed_size (λ u. unsigned_abs u.diff) refl (λ _ _. refl) us

-- the size of two lists together is the sum of their sizes
pub summed_size-append : {T : Type 0} (us vs : List (Update T)) → summed_size (us ++ vs) ≡ summed_size us + summed_size vs
summed_size-append [] vs = omega arith
summed_size-append (u ∷ us) vs = let h = summed_size-append us vs in omega (arith, h)

summed_size_group : {T : Type 0} (u : Update T) (n : ℤ) → summed_size (group_sum u n) ≤ unsigned_abs n
summed_size_group u n =
    elim (int_eq n (pos 0)) as (λ b. summed_size (cond b [] (record u { diff = n } ∷ [])) ≤ unsigned_abs n) [
      | true ↦ omega arith
      | false ↦ omega arith
    ]

summed_size_left : {T : Type 0} (cmp : T → T → Ordering) (u : Update T) (n : ℤ) (vs : List (Update T)) → summed_size (group_sums (groups_of cmp u n vs)) ≤ unsigned_abs n + summed_size vs
summed_size_left cmp u n [] = let a = summed_size-append (group_sum u n) [] in let s = summed_size_group u n in omega (arith, a, s)
summed_size_left cmp u n (v ∷ vs) =
    elim (is_same cmp u v) as (λ b. summed_size (group_sums (cond b (groups_of cmp u (n +ℤ v.diff) vs) (record { first = u; total = n } ∷ groups_of cmp v v.diff vs))) ≤ unsigned_abs n + (unsigned_abs v.diff + summed_size vs)) [
      | true ↦ let h = summed_size_left cmp u (n +ℤ v.diff) vs in let t = no_larger n v.diff in omega (arith, h, t)
      | false ↦
          let a = summed_size-append (group_sum u n) (group_sums (groups_of cmp v v.diff vs)) in
          let s = summed_size_group u n in
          let h = summed_size_left cmp v v.diff vs in
          omega (arith, a, s, h)
    ]
  where
    no_larger : (x y : ℤ) → unsigned_abs (x +ℤ y) ≤ unsigned_abs x + unsigned_abs y
    no_larger x y = omega (arith, ints)

module _ {T : Type 0} {cmp : T → T → Ordering} (exact : (s t : T) → cmp s t ≡ Equal → s ≡ t) where
  -- the group sums have the totals of the list
  pub gathered_total : (p : List ℤ → T → Bool) (xs : List (Update T)) → total_where p (group_sums (groups_from cmp xs)) ≡ total_where p xs
  gathered_total p [] = refl
  gathered_total p (u ∷ us) = left_total exact p u u.diff us

module _ {T : Type 0} (cmp : T → T → Ordering) where
  from_all : (P : Update T → Type 0) → ((u : Update T) (n : ℤ) → P u → P (record u { diff = n })) → (xs : List (Update T)) → AllByRecursion P xs → AllByRecursion P (group_sums (groups_from cmp xs))
  from_all P keeps [] a = tt
  from_all P keeps (u ∷ us) a = left_all cmp P keeps u u.diff us a.0 a.1

  -- a test of row and time that all updates pass is passed by the group sums
  pub gathered_among : (p : List ℤ → T → Bool) (xs : List (Update T)) → IsTrue (list_all (λ u. p u.row u.time) xs) → IsTrue (list_all (λ u. p u.row u.time) (group_sums (groups_from cmp xs)))
  gathered_among p xs a =
      let test = λ (u : Update T). p u.row u.time in
      let pass = λ (u : Update T). p u.row u.time ≡ true in
      let left = from_all pass (λ u n h. h) xs (recursion_from_All pass xs (AllPass-from_list_all test xs a)) in
      list_all-from_AllPass test (group_sums (groups_from cmp xs)) (All-from_recursion pass (group_sums (groups_from cmp xs)) left)

  from_size : (xs : List (Update T)) → summed_size (group_sums (groups_from cmp xs)) ≤ summed_size xs
  from_size [] = omega arith
  from_size (u ∷ us) = summed_size_left cmp u u.diff us

  -- the group sums are no larger than the list
  pub gathered_size : (xs : List (Update T)) → size (group_sums (groups_from cmp xs)) ≤ size xs
  gathered_size xs =
      let less = from_size xs in
      let left = summed_size_is (group_sums (groups_from cmp xs)) in
      let here = summed_size_is xs in
      omega (arith, less, left, here)

module _ {T : Type 0} {times : Times T} {cmp : T → T → Ordering} (o : PartialOrderLaws times) (total : IsTotalOrder cmp) (exact : (s t : T) → cmp s t ≡ Equal → s ≡ t) where
  -- the group sums have the sum of the list at every time
  pub gathered_sum : (t : T) (xs : List (Update T)) → Alike (as_of times t (group_sums (groups_from cmp xs))) (as_of times t xs)
  gathered_sum t xs row =
      count_as_of times row t (group_sums (groups_from cmp xs))
      ∙ gathered_total exact (λ r s. same_row r row && times.below s t) xs
      ∙ sym (count_as_of times row t xs)

  from_fit : (xs : List (Update T)) → AreNeighbours cmp xs → AllFit (groups_from cmp xs) → (row : List ℤ) (t : T) → FitsSigned w64 (total_at times row t xs)
  from_fit [] a f row t = fits_zero
  from_fit (u ∷ us) a f row t = totals_fit o total exact u u.diff us a f row t

  from_large : (xs : List (Update T)) → AreNeighbours cmp xs → (AllFit (groups_from cmp xs) → ⊥) → HasLargeTotal times xs
  from_large [] a f = absurd (f tt)
  from_large (u ∷ us) a f = some_large o total exact u u.diff us a f

  -- in a grouped list every total fits in 64 bits if each group's total does
  pub gathered_fit : (xs : List (Update T)) → IsGrouped cmp xs → AllFit (groups_from cmp xs) → HasLargeTotal times xs → ⊥
  gathered_fit xs g f large = large.2 (from_fit xs (grouped_neighbours cmp xs g) f large.0 large.1)

  -- and some total does not if a group's total does not
  pub gathered_large : (xs : List (Update T)) → IsGrouped cmp xs → (AllFit (groups_from cmp xs) → ⊥) → HasLargeTotal times xs
  gathered_large xs g f = from_large xs (grouped_neighbours cmp xs g) f

  -- no two group sums of a grouped list have the same row and time
  pub gathered_apart : (xs : List (Update T)) → IsGrouped cmp xs → AreApart times (group_sums (groups_from cmp xs))
  gathered_apart [] g = tt
  gathered_apart (u ∷ us) g = left_apart exact o total u u.diff us (grouped_neighbours cmp (u ∷ us) g)

-- what a sort leaves as it was
module _ {T : Type 0} (us vs : List (Update T)) (q : IsPermutation us vs) where
  -- the totals
  pub moved_total : (p : List ℤ → T → Bool) → total_where p vs ≡ total_where p us
  moved_total p = sym (total_by-permutation (λ u. cond (p u.row u.time) u.diff (pos 0)) us vs q)

  -- the size
  pub moved_size : size vs ≡ size us
  moved_size = sum_by-IsPermutation (λ u. unsigned_abs u.diff) us vs q

  -- a test of row and time that all updates pass
  pub moved_among : (p : List ℤ → T → Bool) → IsTrue (list_all (λ u. p u.row u.time) us) → IsTrue (list_all (λ u. p u.row u.time) vs)
  moved_among p a =
      let test = λ (u : Update T). p u.row u.time in
      list_all-from_AllPass test vs (All-permutation (λ u. test u ≡ true) us vs q (AllPass-from_list_all test us a))

  module _ (times : Times T) where
    -- the sums at each time
    pub moved_sum : (t : T) → Alike (as_of times t vs) (as_of times t us)
    moved_sum t row =
        count_as_of times row t vs ∙ moved_total (λ r s. same_row r row && times.below s t) ∙ sym (count_as_of times row t us)

    same_total_at : (row : List ℤ) (t : T) → total_at times row t vs ≡ total_at times row t us
    same_total_at row t = moved_total (λ r s. same_row r row && (times.below s t && times.below t s))

    -- whether a total is too large
    pub moved_large : HasLargeTotal times us ↔ HasLargeTotal times vs
    moved_large = (
      λ l. (l.0, l.1, λ f. l.2 (subst (FitsSigned w64) (same_total_at l.0 l.1) f)),
      λ l. (l.0, l.1, λ f. l.2 (subst (FitsSigned w64) (sym (same_total_at l.0 l.1)) f)),
    )

-- what follows from two clauses about the value in an `Ok`
pub ok_both : {A E : Type 0} (r : Result A E) (P Q R : A → Type 0) → ((x : A) → P x → Q x → R x) → IfOk r P → IfOk r Q → IfOk r R
ok_both (Ok x) P Q R f p q = f x p q
ok_both (Err e) P Q R f p q = tt

-- what an Overflow whose cause is known says of a list: in an `Ok` nothing is too large, and an
-- `Err` has its cause
pub ok_fits : {A E : Type 0} (r : Result A E) (large : Type 0) → (large → IsErr r) → OnOk r (large → ⊥)
ok_fits (Ok x) large f = λ l. absurd (true≢false (sym (f l)))
ok_fits (Err e) large f = tt

pub err_large : {A : Type 0} (r : Result A Refusal) (large : Type 0) → (IsErr r → large) → IfErr r (λ refused. refused ≡ Overflow) → IfErr r (IsMemoryOrOverflow large)
err_large (Ok x) large f only = tt
err_large (Err e) large f only = inr (only, f refl)
