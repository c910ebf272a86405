use Rattle.histories.proofs.HistoryLemmas.ActorLemmas.{worker_apart}
use Rattle.histories.proofs.theorems.workers_are_apart.Goals as goal

pub returns : goal.returns
returns g c = λ p h e k ne. worker_apart g.T.PartialOrder.times p _ k e ne
