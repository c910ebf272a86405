use Rattle.histories.proofs.HistoryLemmas.HeadlineLemmas.{frontiers_lem, inputs_lem, ports_lem}
use Rattle.histories.proofs.theorems.frontiers_do_not_go_back.Goals as goal

pub returns : goal.returns
returns g c =
    let order = g.met.T.PartialOrder.order in
    record {
      frontiers = λ p q. frontiers_lem g.T.PartialOrder.times order p q;
      inputs = λ p q. inputs_lem g.T.PartialOrder.times order p q;
      ports = λ p q. ports_lem g.T.PartialOrder.times order p q;
    }
