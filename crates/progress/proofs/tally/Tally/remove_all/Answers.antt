use Rattle.progress.proofs.SeveralLemmas.{next_is_there}
use Rattle.std.proofs.Common.{arith}
use Rattle.progress.proofs.tally.Tally.remove_all.Goals as goal

pub remove-requires : goal.remove-requires
remove-requires g c =
    next_is_there g.T.PartialOrder.times g.met.T.PartialOrder.order c.args.place.now c.args.times.now c.loop-number.number c.index-times-number.result c.args.self.now.items c.loop-number.self.items (omega (arith, c.loop-number-test.true)) c.index-times-number.is c.requires c.loop-number.invariant.0
