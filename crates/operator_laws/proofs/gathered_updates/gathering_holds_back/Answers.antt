use Rattle.operator_laws.proofs.GatheredLemmas.{may_hold_back, held_back}
use Rattle.operator_laws.proofs.gathered_updates.gathering_holds_back.Goals as goal

pub returns : goal.returns
returns g c p w n k waiting held before hand is_held =
    let order = g.met.T.PartialOrder.order in
    (may_hold_back g.T.PartialOrder.times order p w n k waiting held before is_held hand, held_back g.T.PartialOrder.times order p w n k waiting held before is_held)
