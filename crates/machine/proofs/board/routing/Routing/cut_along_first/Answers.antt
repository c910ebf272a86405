use Rattle.std.proofs.Common.{take, ap}
use Rattle.machine.proofs.BoardLemmas.CutLemmas.{leading_first}
use Rattle.machine.proofs.board.routing.Routing.cut_along_first.Goals as goal

pub push_along-requires-clause-leads : goal.push_along-requires-clause-leads
push_along-requires-clause-leads g c =
    leading_first c.args.self.now.nodes c.args.emission.now.node c.args.count c.loop-edge.edge-index c.edge-item.result (take c.args.count c.edges_from.result.now)
    (ap (take c.args.count) c.edges_from.ensures) c.requires.count c.loop-edge-test.true c.edge-item.is
