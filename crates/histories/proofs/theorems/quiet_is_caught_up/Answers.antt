use Rattle.antichain.proofs.Lists.{contains_among}
use Rattle.histories.proofs.HistoryLemmas.PlaceLemmas.{in_place_lem}
use Rattle.histories.proofs.HistoryLemmas.QuietLemmas.{caught_up_lem}
use Rattle.histories.proofs.theorems.quiet_is_caught_up.Goals as goal

pub returns : goal.returns
returns g c p q h l quiet n =
    let order = g.met.T.PartialOrder.order in
    caught_up_lem g.T.PartialOrder.times order p q _ n (λ x m. (in_place_lem p q _ h l).inputs x (contains_among x _ m)) quiet
