use Rattle.antichain.proofs.AntichainLemmas.{frontier_by_elements, frontier_by_beyond}
use Rattle.antichain.proofs.laws.frontiers_are_determined.Goals as goal

pub returns : goal.returns
returns g c =
    let order = g.met.T.PartialOrder.order in
    let total = g.met.T.Ord.total in
    record { elements = frontier_by_elements order total; beyond = frontier_by_beyond order total }
