use Rattle.joined_times.proofs.AdditionLemmas.{between_more}
use Rattle.joined_times.proofs.times.bounds_of.Goals as goal

pub loop-t-preserved : goal.loop-t-preserved
loop-t-preserved g c =
    between_more g.met.T.PartialOrder.order g.met.T.Lattice.bounds c.args.first c.loop-t.bounds.meet c.loop-t.bounds.join c.t-item.result c.meet.result c.join.result c.args.rest.now c.loop-t.t-index
    c.loop-t-test.true c.t-item.is c.meet.ensures c.join.ensures c.loop-t.invariant
