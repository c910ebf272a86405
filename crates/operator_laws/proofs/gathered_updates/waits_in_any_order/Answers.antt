use Rattle.operator_laws.proofs.GatheredLemmas.{turned_gathering}
use Rattle.operator_laws.proofs.gathered_updates.waits_in_any_order.Goals as goal

pub returns : goal.returns
returns g c p w n k us vs before = turned_gathering g.T.PartialOrder.times p w n k us vs before
