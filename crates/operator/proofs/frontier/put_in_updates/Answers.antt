use Rattle.operator.proofs.FrontLemmas.{front_loop}
use Rattle.operator.proofs.frontier.put_in_updates.Goals as goal

pub loop-update-preserved : goal.loop-update-preserved
loop-update-preserved g c t =
    front_loop g.T.PartialOrder.times c.loop-update.front.items c.put_in.new.front.items c.args.updates.now c.loop-update.update-index c.update-item.result t _ c.loop-update-test.true c.update-item.is (c.in_ok-put_in.ensures.beyond t) (c.loop-update.invariant t)
