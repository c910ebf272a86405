-- In a sealed list no two updates have one row and time.
use Rattle.std.proofs.Common.{◌≡◌, true, cond, ◌&&◌, List, ◌∷◌, pos, ◌+ℤ◌, refl, sym, ap, ◌∙◌}
use Rattle.std.specs.List.{AllByRecursion}
use Rattle.std.specs.List.Sorted.{IsStrictlySortedBy}
use Rattle.std.specs.Cmp.{IsTotalOrder}
use Rattle.std.specs.Cmp.Lexicographic.{slice_cmp}
use Rattle.std.specs.Cmp.Rules.{signed_items}
use Rattle.std.specs.Ordering.{int_cmp, is_lt, ordering_then}
use Rattle.std.specs.declared.cmp.Ordering.{Ordering}
use Rattle.std.specs.declared.cmp.Ordering.TheVariants.{Less}
use Rattle.std.proofs.Math.IntN.{+ℤ_idr}
use Rattle.std.proofs.lemmas.Bool.{and_from, false_from_ne_true, true≢false}
use Rattle.std.proofs.lemmas.Cmp.{tied_itself}
use Rattle.std.proofs.lemmas.Map.Keys.{sorted_head}
use Rattle.lattice.specs.Times.{Times}
use Rattle.lattice.specs.Order.{PartialOrderLaws}
use Rattle.update.specs.declared.change.Update.{Update}
use Rattle.update.specs.Bags.{same_row}
use Rattle.update.specs.Updates.{total_at}
use Rattle.update.proofs.SumLemmas.{sum_where-none}
use Rattle.update.proofs.UniqueLemmas.{at_each, meets, meets_row, meets_time}
use Rattle.batch.specs.Batches.{by_row_then_time}
use Rattle.batch.proofs.SealLemmas.{by_row_total}

module _ {T : Type 0} {times : Times T} {cmp : T → T → Ordering} (o : PartialOrderLaws times) (total : IsTotalOrder cmp) where
  -- an update cannot come before one of the same row and time
  pub no_tie : (x z : Update T) → z.row ≡ x.row → z.time ≡ x.time → (by_row_then_time cmp x z ≡ Less → ⊥) × (by_row_then_time cmp z x ≡ Less → ⊥)
  no_tie x z e d =
      let itself = tied_itself (by_row_total total) x in
      let one : by_row_then_time cmp x z ≡ by_row_then_time cmp x x = λ i. ordering_then (slice_cmp int_cmp x.row (e i)) (cmp x.time (d i)) in
      let other : by_row_then_time cmp z x ≡ by_row_then_time cmp x x = λ i. ordering_then (slice_cmp int_cmp (e i) x.row) (cmp (d i) x.time) in
      ((λ h. true≢false (sym (ap is_lt h) ∙ ap is_lt (one ∙ itself))), (λ h. true≢false (sym (ap is_lt h) ∙ ap is_lt (other ∙ itself))))

  -- updates that come after x add nothing to the total at its row and time
  pub none_after : (x : Update T) (zs : List (Update T)) → AllByRecursion (λ z. by_row_then_time cmp x z ≡ Less) zs → total_at times x.row x.time zs ≡ pos 0
  none_after x zs a =
      sum_where-none (λ (u : Update T). u.diff) (meets times x) zs
      (λ z m. false_from_ne_true (meets times x z) (λ k. (no_tie x z (meets_row o x z k) (meets_time o x z k)).0 (at_each (λ y. by_row_then_time cmp x y ≡ Less) zs z a m)))

  -- the total at the row and time of the first update is its diff
  pub own_first : (x : Update T) (xs : List (Update T)) → IsStrictlySortedBy (by_row_then_time cmp) (x ∷ xs) → total_at times x.row x.time (x ∷ xs) ≡ x.diff
  own_first x xs s =
      let here : meets times x x ≡ true = and_from (same_row x.row x.row) (times.below x.time x.time && times.below x.time x.time) ((signed_items x.row x.row).1 refl) (and_from (times.below x.time x.time) (times.below x.time x.time) (o.reflexive x.time) (o.reflexive x.time)) in
      let later = none_after x xs (sorted_head (by_row_then_time cmp) x xs s) in
      (λ i. cond (here i) x.diff (pos 0) +ℤ later i) ∙ +ℤ_idr x.diff
