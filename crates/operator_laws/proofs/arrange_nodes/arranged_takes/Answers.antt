use Rattle.operator_laws.proofs.ArrangeLemmas.{took_arranging}
use Rattle.operator_laws.proofs.arrange_nodes.arranged_takes.Goals as goal

pub returns : goal.returns
returns g c p q w number bundle start inserted waiting a port stamped take = took_arranging g.T.PartialOrder.times g.met.T.PartialOrder.order p q w number bundle start inserted waiting a port stamped take
