-- A consolidated list has the least size of all lists with its sums.
use Rattle.std.proofs.Common.{◌≡◌, ◌≤◌, ℕ, ◌+◌, Bool, true, false, cond, not, ◌&&◌, List, [], ◌∷◌, IsTrue, refl, sym, ◌∙◌, ap, inl, inr, arith}
use Rattle.std.specs.Prelude.{ℤ, ◌+ℤ◌, unsigned_abs}
use Rattle.std.specs.List.{filter}
use Rattle.std.specs.List.Sorted.{IsStrictlySortedBy}
use Rattle.std.specs.Cmp.{IsTotalOrder}
use Rattle.std.specs.declared.cmp.Ordering.{Ordering}
use Rattle.std.specs.declared.cmp.Ordering.TheVariants.{Less}
use Rattle.std.proofs.lemmas.Int.{ints}
use Rattle.std.proofs.lemmas.Map.Keys.{sorted_head, sorted_tail}
use Rattle.std.proofs.lemmas.List.Recursion.{is_sum_by}
use Rattle.std.proofs.lemmas.List.Kept.{IsStrictlySortedBy-filter}
use Rattle.lattice.specs.Times.{Times}
use Rattle.lattice.specs.Order.{PartialOrderLaws}
use Rattle.antichain.proofs.Lists.{Among, filter_has}
use Rattle.antichain.proofs.AntichainLemmas.{not_from}
use Rattle.update.specs.Bags.{total_by, same_row, Alike}
use Rattle.update.specs.Updates.{as_of, total_at, by_time_then_row, IsConsolidated, size}
use Rattle.update.specs.declared.change.Update.{Update}
use Rattle.update.proofs.SumLemmas.{total_by-filter, total_where-filter}
use Rattle.update.proofs.UniqueLemmas.{same_totals, own_total, ties, meets, meets_row, meets_time, not_in_order, at_each}

triangle : (a b : ℤ) → unsigned_abs (a +ℤ b) ≤ unsigned_abs a + unsigned_abs b
triangle a b = omega (arith, ints)

module _ {T : Type 0} where
  -- the size, by recursion
  abbrev summed_size : List (Update T) → ℕ
  summed_size [] = 0
  summed_size (u ∷ us) = unsigned_abs u.diff + summed_size us

  summed_size_is_size : (us : List (Update T)) → summed_size us ≡ size us
  summed_size_is_size us = is_sum_by summed_size (λ u. unsigned_abs u.diff) refl (λ _ _. refl) us

  summed_size-split : (p : Update T → Bool) (us : List (Update T)) → summed_size us ≡ summed_size (filter p us) + summed_size (filter (λ u. not (p u)) us)
  summed_size-split p [] = omega arith
  summed_size-split p (u ∷ us) =
      let h = summed_size-split p us in
      elim (p u) as (λ b. unsigned_abs u.diff + summed_size us ≡ summed_size (cond b (u ∷ filter p us) (filter p us)) + summed_size (cond (not b) (u ∷ filter (λ w. not (p w)) us) (filter (λ w. not (p w)) us))) [
        | true ↦ omega arith
        | false ↦ omega arith
      ]

  total-le-size : (us : List (Update T)) → unsigned_abs (total_by (λ u. u.diff) us) ≤ summed_size us
  total-le-size [] = omega arith
  total-le-size (u ∷ us) =
      let h = total-le-size us in
      let t = triangle u.diff (total_by (λ w. w.diff) us) in
      omega arith

module _ {T : Type 0} {times : Times T} {cmp : T → T → Ordering} (o : PartialOrderLaws times) (total : IsTotalOrder cmp) where
  -- if the second list has at the row and time of each update of the sorted first list that
  -- update's diff as its total, then it is no smaller than the first list
  covers : (us vs : List (Update T)) → IsStrictlySortedBy (by_time_then_row cmp) us → ((u : Update T) → Among u us → total_at times u.row u.time vs ≡ u.diff) → summed_size us ≤ summed_size vs
  covers [] vs s h = omega arith
  covers (u ∷ us) vs s h =
      let here = total-le-size (filter (meets times u) vs) in
      let same = ap unsigned_abs (total_by-filter (λ w. w.diff) (meets times u) vs ∙ h u (inl refl)) in
      let elsewhere = covers us (filter (λ v. not (meets times u v)) vs) (sorted_tail (by_time_then_row cmp) u us s) still in
      let split = summed_size-split (meets times u) vs in
      omega arith
    where
      apart : (w v : Update T) → Among w us → IsTrue (meets times w v) → IsTrue (not (meets times u v))
      apart w v m e =
          let later = at_each (λ y. by_time_then_row cmp u y ≡ Less) us w (sorted_head (by_time_then_row cmp) u us s) m in
          not_from (meets times u v) (λ k. not_in_order o total u w (sym (meets_row o w v e) ∙ meets_row o u v k) (sym (meets_time o w v e) ∙ meets_time o u v k) later)

      still : (w : Update T) → Among w us → total_at times w.row w.time (filter (λ v. not (meets times u v)) vs) ≡ w.diff
      still w m =
          total_where-filter (λ r t. same_row r w.row && ties times t w.time) (λ v. not (meets times u v)) vs (λ v. apart w v m)
          ∙ h w (inr m)

  -- at the times of the set, a consolidated list is no larger than any list with its sums
  pub least_size : (among : T → Bool) (us vs : List (Update T)) → ((s t : T) → IsTrue (times.below s t) → IsTrue (among t) → IsTrue (among s)) → ((t : T) → IsTrue (among t) → Alike (as_of times t us) (as_of times t vs)) → IsConsolidated cmp us → size (filter (λ u. among u.time) us) ≤ size (filter (λ u. among u.time) vs)
  least_size among us vs down same a =
      let ordered = IsStrictlySortedBy-filter (by_time_then_row cmp) (λ u. among u.time) us a.ascending in
      let no_smaller = covers (filter (λ u. among u.time) us) (filter (λ u. among u.time) vs) ordered diff_there in
      let ours = summed_size_is_size (filter (λ u. among u.time) us) in
      let theirs = summed_size_is_size (filter (λ u. among u.time) vs) in
      omega arith
    where
      diff_there : (u : Update T) → Among u (filter (λ w. among w.time) us) → total_at times u.row u.time (filter (λ v. among v.time) vs) ≡ u.diff
      diff_there u m =
          let has = filter_has (λ w. among w.time) us u m in
          total_where-filter (λ r t. same_row r u.row && ties times t u.time) (λ v. among v.time) vs (λ v e. ap among (meets_time o u v e) ∙ has.1)
          ∙ sym (same_totals o among us vs down same u.row u.time has.1)
          ∙ own_total o total us a.ascending u has.0
