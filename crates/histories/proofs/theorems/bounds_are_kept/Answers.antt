use Rattle.histories.proofs.HistoryLemmas.BoundLemmas.{bound_lem, owed_lem, takes_lem, loads_lem}
use Rattle.histories.proofs.theorems.bounds_are_kept.Goals as goal

pub returns : goal.returns
returns g c =
    let order = g.met.T.PartialOrder.order in
    record {
      emitted = λ p q h l n. bound_lem g.T.PartialOrder.times order p q _ h l n;
      owed = λ p q h l n. owed_lem g.T.PartialOrder.times order p q _ h l n;
      received = λ p q h l n. takes_lem g.T.PartialOrder.times order p q _ h l n;
      loads = λ p q h l n. loads_lem g.T.PartialOrder.times order p q _ h l n;
    }
