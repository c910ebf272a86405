use Rattle.operator_laws.proofs.ArrangeLemmas.{turned_arranging}
use Rattle.operator_laws.proofs.arrange_nodes.arranged_in_any_order.Goals as goal

pub returns : goal.returns
returns g c p w n k start inserted us vs a = turned_arranging g.T.PartialOrder.times g.met.T.PartialOrder.order p w n k start inserted us vs a
