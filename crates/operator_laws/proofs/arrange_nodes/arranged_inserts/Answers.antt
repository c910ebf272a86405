use Rattle.operator_laws.proofs.ArrangeLemmas.{may_insert, gave_arranging}
use Rattle.operator_laws.proofs.GatheredLemmas.{held_beyond}
use Rattle.histories.specs.Histories.States.{update_times}
use Rattle.operator_laws.proofs.arrange_nodes.arranged_inserts.Goals as goal

pub returns : goal.returns
returns g c p q w e sent start inserted waiting rest upper held a hand split is_held cut on beyond =
    let order = g.met.T.PartialOrder.order in
    (may_insert g.T.PartialOrder.times order p q w e sent start inserted waiting rest held a hand split is_held cut, gave_arranging g.T.PartialOrder.times order p q w e sent start inserted waiting rest held a hand split is_held cut upper on beyond, held_beyond g.T.PartialOrder.times order upper held (update_times rest) is_held beyond)
