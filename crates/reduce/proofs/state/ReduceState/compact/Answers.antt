use Rattle.std.proofs.Common.{ap}
use Rattle.reduce.proofs.CompactLemmas.{compacted_due, compacted_known, compacted_waits, stands_compacted}
use Rattle.reduce.proofs.state.ReduceState.compact.Goals as goal

pub invariant_of-self : goal.invariant_of-self
invariant_of-self g c = (
  c.self.invariant.0,
  c.self.invariant.1,
  compacted_known g.T.PartialOrder.times g.T.Ord.cmp c.args.since.now c.self.inside.key c.self.inside.histories.items c.compact_all.new.histories.items c.compact_all.ensures.items c.self.invariant.2,
  compacted_waits g.T.PartialOrder.times g.T.Ord.cmp c.args.since.now c.self.inside.histories.items c.compact_all.new.histories.items c.compact_all.ensures.items c.self.inside.waiting.items c.self.invariant.3,
)

pub returns-clause-stands : goal.returns-clause-stands
returns-clause-stands g c =
    rw (← ap (λ s. s.key) c.self.view_is, ← ap (λ s. s.histories) c.self.view_is, ← ap (λ s. s.reducer) c.self.view_is)
    (stands_compacted g.T.Ord.cmp g.met.T.PartialOrder.order g.met.T.Lattice.bounds c.args.since.now c.self.inside.histories.items c.compact_all.new.histories.items c.compact_all.ensures.items c.self.inside.key (g.R.Reducer.reduces c.self.inside.reducer))

pub returns-clause-due : goal.returns-clause-due
returns-clause-due g c =
    rw (← ap (λ s. s.histories) c.self.view_is)
    (λ key. compacted_due g.T.PartialOrder.times g.T.Ord.cmp c.args.since.now key c.self.inside.histories.items c.compact_all.new.histories.items c.compact_all.ensures.items)

pub returns-clause-places : goal.returns-clause-places
returns-clause-places g c = rw (← ap (λ s. s.histories) c.self.view_is) c.compact_all.ensures.items
