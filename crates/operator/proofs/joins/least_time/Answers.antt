use Rattle.antichain.proofs.AntichainLemmas.{frontier_one_time}
use Rattle.operator.proofs.joins.least_time.Goals as goal

pub returns-clause-frontier : goal.returns-clause-frontier
returns-clause-frontier g c =
    rw (c.in_ok-push.ensures.items, c.new-times.ensures.items)
    (frontier_one_time g.T.PartialOrder.times g.T.Ord.cmp c.minimum.result)
