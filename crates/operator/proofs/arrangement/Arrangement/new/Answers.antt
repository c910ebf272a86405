use Rattle.std.proofs.Common.{◌+◌, []}
use Rattle.operator.proofs.ArrangementLemmas.{new_held}
use Rattle.operator.proofs.arrangement.Arrangement.new.Goals as goal

pub loop-reader-preserved : goal.loop-reader-preserved
loop-reader-preserved g c =
    new_held g.T.PartialOrder.times g.met.T.PartialOrder.order c.args.worker c.args.node c.args.width (c.loop-reader._reader + 1) c.loop-reader.made c.add_reader.new.self c.loop-reader.invariant
    c.in_ok-add_reader.ensures.held (c.in_ok-add_reader.ensures.stands [] c.loop-reader.invariant.stands)
