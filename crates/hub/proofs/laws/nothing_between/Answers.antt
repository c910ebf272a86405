use Rattle.hub.proofs.HistoryLemmas.{nothing_since}
use Rattle.hub.proofs.laws.nothing_between.Goals as goal

pub returns : goal.returns
returns g c = nothing_since
