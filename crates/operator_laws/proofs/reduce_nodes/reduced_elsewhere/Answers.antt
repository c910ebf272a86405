use Rattle.operator_laws.proofs.ReduceLemmas.{same_reducing}
use Rattle.operator_laws.proofs.reduce_nodes.reduced_elsewhere.Goals as goal

pub returns : goal.returns
returns g c p q w n k upper pending r e allowed other = same_reducing g.T.PartialOrder.times g.met.T.PartialOrder.order p q w n k upper pending r e allowed other
