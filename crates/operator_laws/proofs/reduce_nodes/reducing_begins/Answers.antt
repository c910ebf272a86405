use Rattle.operator_laws.proofs.ReduceLemmas.{first_reducing}
use Rattle.operator_laws.proofs.reduce_nodes.reducing_begins.Goals as goal

pub returns : goal.returns
returns g c p n k source kind e = first_reducing g.T.PartialOrder.times g.met.T.PartialOrder.order p n k source kind e
