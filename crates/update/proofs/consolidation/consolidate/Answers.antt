use Rattle.std.proofs.Common.{◌∙◌, arith}
use Rattle.std.proofs.lemmas.Result.{IfOk-weaker}
use Rattle.update.specs.Updates.{IsConsolidated, by_time_then_row}
use Rattle.update.proofs.GroupLemmas.{sorted_grouped}
use Rattle.update.proofs.ConsolidatedLemmas.{by_time_orders, sorted_by_time, moved_total, moved_sum, moved_among, moved_size, moved_large, ok_both}
use Rattle.update.proofs.consolidation.consolidate.Goals as goal

pub consolidate_grouped-requires : goal.consolidate_grouped-requires
consolidate_grouped-requires g c =
    sorted_grouped g.met.T.Ord.total (by_time_orders g.met.T.Ord.total) _ (sorted_by_time g.met.T.Ord.total _ c.sort_unstable.ensures.sorted)

pub returns-clause-consolidated : goal.returns-clause-consolidated
returns-clause-consolidated g c =
    let order = by_time_then_row g.T.Ord.cmp in
    let sorted = sorted_by_time g.met.T.Ord.total _ c.sort_unstable.ensures.sorted in
    ok_both c.consolidate_grouped.result _ _ (λ out. IsConsolidated g.T.Ord.cmp out.items)
    (λ out ascending nonzero. record { ascending = ascending order (by_time_orders g.met.T.Ord.total) sorted; nonzero = nonzero })
    c.consolidate_grouped.ensures.ascending c.consolidate_grouped.ensures.nonzero

pub returns-clause-totals : goal.returns-clause-totals
returns-clause-totals g c =
    IfOk-weaker c.consolidate_grouped.result _ _
    (λ out same p. same p ∙ moved_total _ _ c.sort_unstable.ensures.permutation p)
    c.consolidate_grouped.ensures.totals

pub returns-clause-sums : goal.returns-clause-sums
returns-clause-sums g c =
    IfOk-weaker c.consolidate_grouped.result _ _
    (λ out same t row. same t row ∙ moved_sum _ _ c.sort_unstable.ensures.permutation g.T.PartialOrder.times t row)
    c.consolidate_grouped.ensures.sums

pub returns-clause-among : goal.returns-clause-among
returns-clause-among g c =
    IfOk-weaker c.consolidate_grouped.result _ _
    (λ out among p all. among p (moved_among _ _ c.sort_unstable.ensures.permutation p all))
    c.consolidate_grouped.ensures.among

pub returns-clause-size : goal.returns-clause-size
returns-clause-size g c =
    IfOk-weaker c.consolidate_grouped.result _ _
    (λ out smaller. omega (arith, smaller, moved_size _ _ c.sort_unstable.ensures.permutation))
    c.consolidate_grouped.ensures.size

pub returns-clause-overflow : goal.returns-clause-overflow
returns-clause-overflow g c =
    let moved = moved_large _ _ c.sort_unstable.ensures.permutation g.T.PartialOrder.times in (
      λ e. moved.1 (c.consolidate_grouped.ensures.overflow.0 e),
      λ l. c.consolidate_grouped.ensures.overflow.1 (moved.0 l),
    )
