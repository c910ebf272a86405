use Rattle.operator_laws.proofs.WorkerLemmas.{for_no_join}
use Rattle.operator_laws.proofs.workers.joins_read_arranged_nodes.Goals as goal

pub returns : goal.returns
returns g c p q e sent a cut k = for_no_join g.T.PartialOrder.times p q e sent a cut k
