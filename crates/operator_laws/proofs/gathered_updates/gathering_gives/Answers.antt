use Rattle.operator_laws.proofs.GatheredLemmas.{may_give, gave_gathering}
use Rattle.operator_laws.proofs.gathered_updates.gathering_gives.Goals as goal

pub returns : goal.returns
returns g c p w e waiting rest held sent before hand split is_held cut =
    let order = g.met.T.PartialOrder.order in
    (may_give g.T.PartialOrder.times order p w e waiting rest held sent before split is_held hand cut, gave_gathering g.T.PartialOrder.times order p w e waiting rest held sent before split is_held)
