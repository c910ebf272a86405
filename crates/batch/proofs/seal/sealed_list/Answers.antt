use Rattle.std.proofs.Common.{◌∙◌, arith}
use Rattle.std.proofs.lemmas.Result.{IfOk-weaker}
use Rattle.update.proofs.GroupLemmas.{sorted_grouped}
use Rattle.update.proofs.ConsolidatedLemmas.{moved_total, moved_among, moved_size, moved_large, ok_both}
use Rattle.batch.specs.Batches.{IsSealed, by_row_then_time}
use Rattle.batch.proofs.SealLemmas.{by_row_orders}
use Rattle.batch.proofs.seal.sealed_list.Goals as goal

pub consolidate_grouped-requires : goal.consolidate_grouped-requires
consolidate_grouped-requires g c =
    sorted_grouped g.met.T.Ord.total (by_row_orders g.met.T.Ord.total) _ c.sort_by_row.ensures.sorted

pub returns-clause-sealed : goal.returns-clause-sealed
returns-clause-sealed g c =
    ok_both c.consolidate_grouped.result _ _ (λ out. IsSealed g.T.Ord.cmp out.items)
    (λ out ascending nonzero. record { ascending = ascending (by_row_then_time g.T.Ord.cmp) (by_row_orders g.met.T.Ord.total) c.sort_by_row.ensures.sorted; nonzero = nonzero })
    c.consolidate_grouped.ensures.ascending c.consolidate_grouped.ensures.nonzero

pub returns-clause-totals : goal.returns-clause-totals
returns-clause-totals g c =
    IfOk-weaker c.consolidate_grouped.result _ _
    (λ out same p. same p ∙ moved_total _ _ c.sort_by_row.ensures.moved p)
    c.consolidate_grouped.ensures.totals

pub returns-clause-among : goal.returns-clause-among
returns-clause-among g c =
    IfOk-weaker c.consolidate_grouped.result _ _
    (λ out among p all. among p (moved_among _ _ c.sort_by_row.ensures.moved p all))
    c.consolidate_grouped.ensures.among

pub returns-clause-size : goal.returns-clause-size
returns-clause-size g c =
    IfOk-weaker c.consolidate_grouped.result _ _
    (λ out smaller. omega (arith, smaller, moved_size _ _ c.sort_by_row.ensures.moved))
    c.consolidate_grouped.ensures.size

pub returns-clause-overflow : goal.returns-clause-overflow
returns-clause-overflow g c =
    let moved = moved_large _ _ c.sort_by_row.ensures.moved g.T.PartialOrder.times in (
      λ e. moved.1 (c.consolidate_grouped.ensures.overflow.0 e),
      λ l. c.consolidate_grouped.ensures.overflow.1 (moved.0 l),
    )
