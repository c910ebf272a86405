use Rattle.antichain.proofs.AntichainLemmas.{frontier_by_beyond}
use Rattle.operator.proofs.frontier.antichain_of.Goals as goal

pub returns-clause-is : goal.returns-clause-is
returns-clause-is g c =
    frontier_by_beyond g.met.T.PartialOrder.order g.met.T.Ord.total c.in_ok-made.made c.args.frontier.now c.known.ensures c.requires c.in_ok-made.ensures.beyond
