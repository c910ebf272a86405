use Rattle.operator_laws.proofs.ReduceLemmas.{took_reducing}
use Rattle.operator_laws.proofs.reduce_nodes.reduced_takes.Goals as goal

pub returns : goal.returns
returns g c p q w number bundle upper pending more r is stamped take = took_reducing g.T.PartialOrder.times g.met.T.PartialOrder.order p q w number bundle upper pending more r is stamped take
