use Rattle.operator_laws.proofs.WorkerLemmas.{quiet_lem}
use Rattle.operator_laws.proofs.workers.quiet_while_it_waits.Goals as goal

pub returns : goal.returns
returns g c p q h l works is none free wait = quiet_lem g.T.PartialOrder.times g.met.T.PartialOrder.order p q h l works is none free wait
