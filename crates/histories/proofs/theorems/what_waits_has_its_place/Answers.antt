use Rattle.histories.proofs.HistoryLemmas.PlaceLemmas.{in_place_lem}
use Rattle.histories.proofs.theorems.what_waits_has_its_place.Goals as goal

pub returns : goal.returns
returns g c p q h l = in_place_lem p q _ h l
