use Rattle.operator_laws.proofs.GatheredLemmas.{took_gathering}
use Rattle.operator_laws.proofs.gathered_updates.gathering_takes.Goals as goal

pub returns : goal.returns
returns g c p w number bundle out waiting before stamped piece = took_gathering g.T.PartialOrder.times g.met.T.PartialOrder.order p w number bundle out waiting stamped before piece
