use Rattle.histories.proofs.HistoryLemmas.HeadlineLemmas.{differences_lem, agree_lem}
use Rattle.histories.proofs.theorems.one_list.Goals as goal

pub returns : goal.returns
returns g c = record {
  differences = λ p q h l n. differences_lem g.T.PartialOrder.times g.met.T.PartialOrder.order p q h l n _;
  agree = agree_lem g.T.PartialOrder.times g.met.T.PartialOrder.order;
}
