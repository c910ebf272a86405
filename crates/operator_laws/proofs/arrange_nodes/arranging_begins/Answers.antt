use Rattle.operator_laws.proofs.ArrangeLemmas.{first_arranging}
use Rattle.operator_laws.proofs.arrange_nodes.arranging_begins.Goals as goal

pub returns : goal.returns
returns g c p n k source key e = first_arranging g.T.PartialOrder.times g.met.T.PartialOrder.order p n k source key e
