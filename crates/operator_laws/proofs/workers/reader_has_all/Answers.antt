use Rattle.operator_laws.proofs.WorkerLemmas.{has_all}
use Rattle.operator_laws.proofs.workers.reader_has_all.Goals as goal

pub returns : goal.returns
returns g c p q h l n port k source reads stays t passed = has_all g.T.PartialOrder.times g.met.T.PartialOrder.order p q h l n port k source reads stays t passed
