use Rattle.operator_laws.proofs.WorkerLemmas.{same_working}
use Rattle.operator_laws.proofs.workers.workers_are_apart.Goals as goal

pub returns : goal.returns
returns g c p q w k works is e a d = same_working g.T.PartialOrder.times g.met.T.PartialOrder.order p q w k works is e a d
