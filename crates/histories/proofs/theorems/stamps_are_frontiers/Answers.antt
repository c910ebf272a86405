use Rattle.histories.proofs.HistoryLemmas.StampLemmas.{stamp_apart, stamp_beyond}
use Rattle.histories.proofs.theorems.stamps_are_frontiers.Goals as goal

pub returns : goal.returns
returns g c = let order = g.met.T.PartialOrder.order in record { apart = λ us. stamp_apart g.T.PartialOrder.times order us; beyond = λ us t. stamp_beyond g.T.PartialOrder.times order us t }
