-- The order inside a batch: it is total, and exactly updates of one row and time tie.
use Rattle.std.proofs.Common.{◌≡◌, ◌&&◌, refl, sym, ap, ◌∙◌}
use Rattle.std.specs.Cmp.{IsTotalOrder}
use Rattle.std.specs.Cmp.Lexicographic.{slice_cmp, lists_total, lists_ties}
use Rattle.std.specs.Ordering.{int_cmp, is_eq, ordering_then}
use Rattle.std.specs.declared.cmp.Ordering.{Ordering}
use Rattle.std.specs.declared.cmp.Ordering.TheVariants.{Less, Equal, Greater}
use Rattle.std.proofs.lemmas.Cmp.{then_total, on_total, int_cmp_total}
use Rattle.update.specs.Groups.{OrdersGroups}
use Rattle.batch.specs.Batches.{by_row_then_time}

both_equal : (a b : Ordering) → is_eq (ordering_then a b) ≡ (is_eq b && is_eq a)
both_equal Less Less = refl
both_equal Less Equal = refl
both_equal Less Greater = refl
both_equal Equal Less = refl
both_equal Equal Equal = refl
both_equal Equal Greater = refl
both_equal Greater Less = refl
both_equal Greater Equal = refl
both_equal Greater Greater = refl

module _ {T : Type 0} {cmp : T → T → Ordering} (total : IsTotalOrder cmp) where
  -- the order inside a batch is total
  pub by_row_total : IsTotalOrder (by_row_then_time cmp)
  by_row_total = then_total (on_total (λ u. u.row) (lists_total int_cmp_total)) (on_total (λ u. u.time) total)

  -- it tells rows and times apart
  pub by_row_orders : OrdersGroups cmp (by_row_then_time cmp)
  by_row_orders = record {
    total = by_row_total;
    ties = λ u v.
        both_equal (slice_cmp int_cmp u.row v.row) (cmp u.time v.time)
        ∙ ap (λ b. is_eq (cmp u.time v.time) && b) (sym (lists_ties int_cmp (λ x y. refl) u.row v.row));
  }
