use Rattle.key_history.proofs.CompactionLemmas.{beyond_moved, own_updates}
use Rattle.key_history.proofs.compaction.updates_as_of.Goals as goal

pub returns-clause-stands : goal.returns-clause-stands
returns-clause-stands g c =
    rw (c.in_ok-packed.ensures.copied, c.as_slice.ensures.value)
    (beyond_moved g.met.T.PartialOrder.order g.met.T.Lattice.bounds c.args.since.now c.args.updates.now c.in_ok-list.list.items c.in_ok-out.out.items c.in_ok-list.ensures.moved
    c.in_ok-out.ensures.sums c.in_ok-out.ensures.size c.in_ok-out.ensures.among)

pub returns-clause-own : goal.returns-clause-own
returns-clause-own g c =
    rw (c.in_ok-packed.ensures.copied, c.as_slice.ensures.value)
    (own_updates g.met.T.PartialOrder.order g.met.T.Lattice.bounds c.args.since.now c.args.updates.now c.in_ok-list.list.items c.in_ok-out.out.items c.in_ok-list.ensures.moved c.in_ok-out.ensures.among)
