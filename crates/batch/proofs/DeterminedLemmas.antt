-- Sealed lists with the same totals are one list.
use Rattle.std.proofs.Common.{◌≡◌, ◌≢◌, true, cond, List, [], ◌∷◌, IsTrue, ℤ, pos, ◌+ℤ◌, refl, sym, ◌∙◌, subst, ⊎_elim}
use Rattle.std.specs.List.Sorted.{IsStrictlySortedBy}
use Rattle.std.specs.Cmp.{IsTotalOrder}
use Rattle.std.specs.declared.cmp.Ordering.{Ordering}
use Rattle.std.specs.declared.cmp.Ordering.TheVariants.{Less}
use Rattle.std.proofs.Math.IntN.{+ℤ_idl}
use Rattle.std.proofs.lemmas.Bool.{false_from_ne_true}
use Rattle.std.proofs.lemmas.Map.Keys.{sorted_head, sorted_tail}
use Rattle.lattice.specs.Times.{Times}
use Rattle.lattice.specs.Order.{PartialOrderLaws, LatticeLaws}
use Rattle.lattice.specs.Representatives.{representative_of, Indistinguishable}
use Rattle.lattice.proofs.RepresentativeLemmas.{representative_one, representative_later}
use Rattle.antichain.proofs.Lists.{Among, all_at}
use Rattle.antichain.proofs.AntichainLemmas.{among_same, sorted_same}
use Rattle.update.specs.declared.change.Update.{Update}
use Rattle.update.specs.Bags.{Alike}
use Rattle.update.specs.Updates.{as_of, total_at}
use Rattle.update.proofs.SumLemmas.{sum_where-none}
use Rattle.update.proofs.UniqueLemmas.{passes_or_none, same_totals, at_each, meets, meets_row, meets_time}
use Rattle.batch.specs.Batches.{by_row_then_time, IsSealed}
use Rattle.batch.specs.Compaction.{are_compacted}
use Rattle.batch.proofs.SealLemmas.{by_row_total}
use Rattle.batch.proofs.TieLemmas.{no_tie, own_first}

module _ {T : Type 0} {times : Times T} {cmp : T → T → Ordering} (o : PartialOrderLaws times) (total : IsTotalOrder cmp) where
  -- in a sealed list the total at an update's row and time is that update's diff
  own_total : (us : List (Update T)) → IsStrictlySortedBy (by_row_then_time cmp) us → (u : Update T) → Among u us → total_at times u.row u.time us ≡ u.diff
  own_total [] s u m = absurd m
  own_total (x ∷ us) s u m =
      let order = by_row_then_time cmp in
      ⊎_elim
      (λ e. subst (λ (w : Update T). total_at times w.row w.time (x ∷ us) ≡ w.diff) e (own_first o total x us s))
      (λ k.
      let apart = false_from_ne_true (meets times u x) (λ h. (no_tie o total u x (meets_row o u x h) (meets_time o u x h)).1 (at_each (λ y. order x y ≡ Less) us u (sorted_head order x us s) k)) in
      let rest = own_total us (sorted_tail order x us s) u k in
      (λ i. cond (apart i) x.diff (pos 0) +ℤ rest i) ∙ +ℤ_idl u.diff)
      m

  update_of : (us vs : List (Update T)) → ((row : List ℤ) (t : T) → total_at times row t us ≡ total_at times row t vs) → IsSealed cmp us → IsSealed cmp vs → (u : Update T) → Among u us → Among u vs
  update_of us vs same a b u m =
      ⊎_elim
      (λ r. among_same r.0 u vs (one r.0 r.1 r.2) r.1)
      (λ none. absurd (at_each (λ w. w.diff ≢ pos 0) us u a.nonzero m (sym there ∙ sum_where-none (λ (w : Update T). w.diff) (meets times u) vs none)))
      (passes_or_none (meets times u) vs)
    where
      there : total_at times u.row u.time vs ≡ u.diff
      there = sym (same u.row u.time) ∙ own_total us a.ascending u m

      one : (v : Update T) → Among v vs → IsTrue (meets times u v) → v ≡ u
      one v k h =
          let row = meets_row o u v h in
          let time = meets_time o u v h in
          let diff : v.diff ≡ u.diff = sym (own_total vs b.ascending v k) ∙ (λ i. total_at times (row i) (time i) vs) ∙ there in
          λ i. record { time = time i; row = row i; diff = diff i }

  -- a sealed list is determined by its totals
  pub same_sealed : (us vs : List (Update T)) → IsSealed cmp us → IsSealed cmp vs → ((row : List ℤ) (t : T) → total_at times row t us ≡ total_at times row t vs) → us ≡ vs
  same_sealed us vs a b same =
      sorted_same (by_row_total total) us vs a.ascending b.ascending
      (update_of us vs same a b)
      (update_of vs us (λ row t. sym (same row t)) b a)

  -- a sealed list is determined by its sums
  pub same_by_sums : (us vs : List (Update T)) → IsSealed cmp us → IsSealed cmp vs → ((t : T) → Alike (as_of times t us) (as_of times t vs)) → us ≡ vs
  same_by_sums us vs a b same =
      same_sealed us vs a b (λ row t. same_totals o (λ _. true) us vs (λ s u h k. refl) (λ u h. same u) row t refl)

-- after compaction no two updates of a row are left that reads beyond the frontier cannot tell
-- apart
module _ {T : Type 0} {times : Times T} {cmp : T → T → Ordering} (o : PartialOrderLaws times) (l : LatticeLaws times) (total : IsTotalOrder cmp) where
  own_representative : (F : List T) (us : List (Update T)) (u : Update T) → IsTrue (are_compacted times F us) → Among u us → representative_of times F u.time ≡ u.time
  own_representative F us u h m =
      o.antisymmetric (representative_of times F u.time) u.time
      (all_at (λ (v : Update T). times.below (representative_of times F v.time) v.time) us u h m)
      (representative_later o l F u.time)

  pub compacted_apart : (F : List T) (us : List (Update T)) (u v : Update T) → F ≢ [] → IsSealed cmp us → IsTrue (are_compacted times F us) → Among u us → Among v us → u.row ≡ v.row → Indistinguishable times F u.time v.time → u ≡ v
  compacted_apart F us u v some sealed h m n row same =
      let time : u.time ≡ v.time = sym (own_representative F us u h m) ∙ representative_one o l F u.time v.time some same ∙ own_representative F us v h n in
      let diff : u.diff ≡ v.diff = sym (own_total o total us sealed.ascending u m) ∙ (λ i. total_at times (row i) (time i) us) ∙ own_total o total us sealed.ascending v n in
      λ i. record { time = time i; row = row i; diff = diff i }
