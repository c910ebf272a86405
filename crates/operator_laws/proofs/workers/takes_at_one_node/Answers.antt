use Rattle.operator_laws.proofs.WorkerLemmas.{takes_lem}
use Rattle.operator_laws.proofs.workers.takes_at_one_node.Goals as goal

pub returns : goal.returns
returns g c p q w number bundle works next is take but inserted here = takes_lem g.T.PartialOrder.times g.met.T.PartialOrder.order p q w number bundle works next is take but inserted here
