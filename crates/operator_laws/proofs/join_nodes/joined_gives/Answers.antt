use Rattle.operator_laws.proofs.GatheredLemmas.{may_give}
use Rattle.operator_laws.proofs.JoinLemmas.{gave_joining}
use Rattle.operator_laws.proofs.join_nodes.joined_gives.Goals as goal

pub returns : goal.returns
returns g c p w e left right waiting rest held sent j hand split is_held cut =
    let order = g.met.T.PartialOrder.order in
    (may_give g.T.PartialOrder.times order p w e waiting rest held sent j.gathering split is_held hand cut, gave_joining g.T.PartialOrder.times order p w e left right waiting rest held sent j split is_held)
