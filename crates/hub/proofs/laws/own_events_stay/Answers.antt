use Rattle.std.proofs.Common.{ap, ◌∙◌}
use Rattle.hub.specs.Histories.{by_pass}
use Rattle.hub.proofs.HistoryLemmas.{own_only}
use Rattle.hub.proofs.laws.own_events_stay.Goals as goal

pub returns : goal.returns
returns g c p h a = ap (λ es. by_pass p.number es) a.1 ∙ own_only p.number a.0 p.seen a.2
