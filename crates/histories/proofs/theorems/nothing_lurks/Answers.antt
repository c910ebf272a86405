use Rattle.histories.proofs.HistoryLemmas.HeadlineLemmas.{lurks, lurks_later}
use Rattle.histories.proofs.theorems.nothing_lurks.Goals as goal

pub returns : goal.returns
returns g c =
    let order = g.met.T.PartialOrder.order in
    record {
      frontiers = λ p q h l n. lurks g.T.PartialOrder.times order p q h l n;
      inputs = λ p q. lurks_later g.T.PartialOrder.times order p q;
    }
