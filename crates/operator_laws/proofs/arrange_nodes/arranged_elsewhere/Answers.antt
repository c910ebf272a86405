use Rattle.operator_laws.proofs.ArrangeLemmas.{same_arranging}
use Rattle.operator_laws.proofs.arrange_nodes.arranged_elsewhere.Goals as goal

pub returns : goal.returns
returns g c p q w n k start inserted waiting a e allowed other = same_arranging g.T.PartialOrder.times g.met.T.PartialOrder.order p q w n k start inserted waiting a e allowed other
