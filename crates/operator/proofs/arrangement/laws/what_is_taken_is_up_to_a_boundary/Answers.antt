use Rattle.operator.proofs.TurnLemmas.{taken_are_up_to}
use Rattle.operator.proofs.arrangement.laws.what_is_taken_is_up_to_a_boundary.Goals as goal

pub returns : goal.returns
returns g c = taken_are_up_to g.met.T.PartialOrder.order
