use Rattle.operator_laws.proofs.WorkerLemmas.{first_working}
use Rattle.operator_laws.proofs.workers.working_begins.Goals as goal

pub returns : goal.returns
returns g c p k = first_working g.T.PartialOrder.times g.met.T.PartialOrder.order p k
