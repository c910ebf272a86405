use Rattle.std.proofs.Common.{◌∙◌}
use Rattle.std.proofs.lemmas.Result.{IfOk-weaker}
use Rattle.update.specs.Updates.{IsConsolidated, by_time_then_row}
use Rattle.update.proofs.GroupLemmas.{sorted_grouped}
use Rattle.update.proofs.ConsolidatedLemmas.{by_time_orders, sorted_by_time, moved_sum, moved_large, ok_both, ok_fits, err_large}
use Rattle.update.proofs.consolidation.consolidate_behind.Goals as goal

pub consolidate_grouped-requires : goal.consolidate_grouped-requires
consolidate_grouped-requires g c =
    sorted_grouped g.met.T.Ord.total (by_time_orders g.met.T.Ord.total) _ (sorted_by_time g.met.T.Ord.total _ c.in_ok-sort.ensures.sorted)

pub returns-clause-consolidated : goal.returns-clause-consolidated
returns-clause-consolidated g c =
    let order = by_time_then_row g.T.Ord.cmp in
    let sorted = sorted_by_time g.met.T.Ord.total _ c.in_ok-sort.ensures.sorted in
    ok_both c.consolidate_grouped.result _ _ (λ out. IsConsolidated g.T.Ord.cmp out.items)
    (λ out ascending nonzero. record { ascending = ascending order (by_time_orders g.met.T.Ord.total) sorted; nonzero = nonzero })
    c.consolidate_grouped.ensures.ascending c.consolidate_grouped.ensures.nonzero

pub returns-clause-sums : goal.returns-clause-sums
returns-clause-sums g c =
    IfOk-weaker c.consolidate_grouped.result _ _
    (λ out same t row. same t row ∙ moved_sum _ _ c.in_ok-sort.ensures.permutation g.T.PartialOrder.times t row)
    c.consolidate_grouped.ensures.sums

pub returns-clause-fits : goal.returns-clause-fits
returns-clause-fits g c =
    let moved = moved_large _ _ c.in_ok-sort.ensures.permutation g.T.PartialOrder.times in
    ok_fits c.consolidate_grouped.result _ (λ l. c.consolidate_grouped.ensures.overflow.1 (moved.0 l))

pub returns-clause-refused : goal.returns-clause-refused
returns-clause-refused g c =
    let moved = moved_large _ _ c.in_ok-sort.ensures.permutation g.T.PartialOrder.times in
    err_large c.consolidate_grouped.result _ (λ e. moved.1 (c.consolidate_grouped.ensures.overflow.0 e)) c.consolidate_grouped.ensures.only
