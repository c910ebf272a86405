use Rattle.histories.proofs.HistoryLemmas.HeadlineLemmas.{headline_lem}
use Rattle.histories.proofs.theorems.headline.Goals as goal

pub returns : goal.returns
returns g c p q h l n = headline_lem g.T.PartialOrder.times g.met.T.PartialOrder.order p q h l n
