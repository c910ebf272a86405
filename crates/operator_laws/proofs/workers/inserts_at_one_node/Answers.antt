use Rattle.operator_laws.proofs.WorkerLemmas.{inserts_lem}
use Rattle.operator_laws.proofs.workers.inserts_at_one_node.Goals as goal

pub returns : goal.returns
returns g c p q w e ts upper works next is give some but new inserted here = inserts_lem g.T.PartialOrder.times g.met.T.PartialOrder.order p q w e ts works next is but upper give some new inserted here
