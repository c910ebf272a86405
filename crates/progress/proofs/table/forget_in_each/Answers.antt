use Rattle.std.proofs.Common.{arith}
use Rattle.progress.specs.Kept.{IsForgotten}
use Rattle.progress.proofs.AskedLemmas.{at_next}
use Rattle.progress.proofs.table.forget_in_each.Goals as goal

pub loop-number-preserved : goal.loop-number-preserved
loop-number-preserved g c =
    at_next (IsForgotten g.T.PartialOrder.times c.args.graph.now c.args.place.now c.args.t.now) c.args.asked.now c.args.kept.now.items c.loop-number.kept.items c.loop-number.number c.index-asked-number.result c.number.result c.index_mut.result.now c.forget.new.self
    c.requires.asked (omega (arith, c.loop-number-test.true)) c.index-asked-number.is c.number.ensures c.index_mut.ensures.value c.forget.ensures c.loop-number.invariant
