use Rattle.operator_laws.proofs.ReduceLemmas.{may_answer, gave_reducing}
use Rattle.operator_laws.proofs.reduce_nodes.reduced_gives.Goals as goal

pub returns : goal.returns
returns g c p q w e upper pending frontier rest held sent r hand found is_held cut =
    let order = g.met.T.PartialOrder.order in
    (may_answer g.T.PartialOrder.times order p q w e upper pending frontier rest held sent r hand found is_held cut, gave_reducing g.T.PartialOrder.times order p q w e upper pending frontier rest held sent r hand found is_held cut)
