use Rattle.operator_laws.proofs.ArrangeLemmas.{seal_split}
use Rattle.operator_laws.proofs.arrange_nodes.sealed_splits.Goals as goal

pub returns : goal.returns
returns g c frontier waiting out is = seal_split g.met.T.PartialOrder.order g.met.T.Ord.total frontier waiting out is
