use Rattle.operator_laws.proofs.GatheredLemmas.{same_after, same_gathering}
use Rattle.operator_laws.proofs.gathered_updates.gathered_elsewhere.Goals as goal

pub returns : goal.returns
returns g c p w n k waiting before e allowed other = same_gathering g.T.PartialOrder.times p w _ n k waiting (same_after g.T.PartialOrder.times p w n k e allowed other) before
