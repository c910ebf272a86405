use Rattle.operator_laws.proofs.GatheredLemmas.{first_gathering}
use Rattle.operator_laws.proofs.gathered_updates.gathering_begins.Goals as goal

pub returns : goal.returns
returns g c p n k r = first_gathering g.T.PartialOrder.times p n k r
