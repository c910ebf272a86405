use Rattle.antichain.proofs.AntichainLemmas.{frontier_least}
use Rattle.antichain.proofs.InsertionLemmas.{least_beyond}
use Rattle.antichain.proofs.laws.least_elements_stand_for_all.Goals as goal

pub returns : goal.returns
returns g c =
    let order = g.met.T.PartialOrder.order in
    record { beyond = least_beyond order; one = frontier_least g.T.PartialOrder.times order }
