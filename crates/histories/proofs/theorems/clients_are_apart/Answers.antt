use Rattle.histories.proofs.HistoryLemmas.ActorLemmas.{clients_apart}
use Rattle.histories.proofs.theorems.clients_are_apart.Goals as goal

pub returns : goal.returns
returns g c = λ p h e l k. clients_apart g.T.PartialOrder.times p _ e l.0 k
