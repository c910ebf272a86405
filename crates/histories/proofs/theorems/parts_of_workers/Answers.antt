use Rattle.histories.proofs.HistoryLemmas.HeadlineLemmas.{part_lem}
use Rattle.histories.proofs.theorems.parts_of_workers.Goals as goal

pub returns : goal.returns
returns g c p q h l n = part_lem g.T.PartialOrder.times g.met.T.PartialOrder.order p q h l n
