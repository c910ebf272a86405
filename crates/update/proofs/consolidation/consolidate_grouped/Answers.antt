use Rattle.std.proofs.Common.{refl, rules}
use Rattle.update.specs.Groups.{groups_from}
use Rattle.update.proofs.GroupLemmas.{left_nonzero, sums_sorted}
use Rattle.update.proofs.ConsolidatedLemmas.{gathered_apart, gathered_total, gathered_among, gathered_size, gathered_sum, gathered_fit, gathered_large}
use Rattle.update.proofs.consolidation.consolidate_grouped.Goals as goal

pub returns-in_err-keep_totals-clause-overflow : goal.returns-in_err-keep_totals-clause-overflow
returns-in_err-keep_totals-clause-overflow g c = (
  λ _. gathered_large g.met.T.PartialOrder.order g.met.T.Ord.total g.met.T.Lattice.extends.exact _ c.requires (c.in_err-keep_totals.ensures.large refl),
  λ _. search rules,
)

pub returns-clause-apart : goal.returns-clause-apart
returns-clause-apart g c =
    rw c.in_ok-keep_totals.ensures.kept (gathered_apart g.met.T.PartialOrder.order g.met.T.Ord.total g.met.T.Lattice.extends.exact _ c.requires)

pub returns-clause-nonzero : goal.returns-clause-nonzero
returns-clause-nonzero g c = rw c.in_ok-keep_totals.ensures.kept (left_nonzero (groups_from g.T.Ord.cmp c.args.updates.items))

pub returns-clause-ascending : goal.returns-clause-ascending
returns-clause-ascending g c order o sorted =
    rw c.in_ok-keep_totals.ensures.kept (sums_sorted g.met.T.Ord.total o _ sorted)

pub returns-clause-totals : goal.returns-clause-totals
returns-clause-totals g c p =
    rw c.in_ok-keep_totals.ensures.kept (gathered_total g.met.T.Lattice.extends.exact p _)

pub returns-clause-sums : goal.returns-clause-sums
returns-clause-sums g c t =
    rw c.in_ok-keep_totals.ensures.kept (gathered_sum g.met.T.PartialOrder.order g.met.T.Ord.total g.met.T.Lattice.extends.exact t _)

pub returns-clause-among : goal.returns-clause-among
returns-clause-among g c p all =
    rw c.in_ok-keep_totals.ensures.kept (gathered_among g.T.Ord.cmp p _ all)

pub returns-clause-size : goal.returns-clause-size
returns-clause-size g c =
    rw c.in_ok-keep_totals.ensures.kept (gathered_size g.T.Ord.cmp c.args.updates.items)

pub returns-clause-overflow : goal.returns-clause-overflow
returns-clause-overflow g c = (
  λ e. search rules,
  λ large. absurd (gathered_fit g.met.T.PartialOrder.order g.met.T.Ord.total g.met.T.Lattice.extends.exact _ c.requires c.in_ok-keep_totals.ensures.fits large),
)
