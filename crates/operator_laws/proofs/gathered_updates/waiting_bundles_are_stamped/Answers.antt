use Rattle.operator_laws.proofs.GatheredLemmas.{waiting_is_stamped}
use Rattle.operator_laws.proofs.gathered_updates.waiting_bundles_are_stamped.Goals as goal

pub returns : goal.returns
returns g c p h legal number bundle take = waiting_is_stamped g.T.PartialOrder.times g.met.T.PartialOrder.order p h legal number bundle take
