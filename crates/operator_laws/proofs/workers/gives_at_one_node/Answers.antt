use Rattle.operator_laws.proofs.WorkerLemmas.{gives_lem}
use Rattle.operator_laws.proofs.workers.gives_at_one_node.Goals as goal

pub returns : goal.returns
returns g c p q w e ts sent works next is give but inserted none here = gives_lem g.T.PartialOrder.times g.met.T.PartialOrder.order p q w e ts works next is but sent give inserted none here
