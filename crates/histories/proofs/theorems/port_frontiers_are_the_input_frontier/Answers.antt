use Rattle.histories.proofs.HistoryLemmas.PortLemmas.{port_fronts_lem}
use Rattle.histories.proofs.theorems.port_frontiers_are_the_input_frontier.Goals as goal

pub returns : goal.returns
returns g c p q h l n = port_fronts_lem g.T.PartialOrder.times g.met.T.PartialOrder.order p q h l n
