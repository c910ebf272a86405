use Rattle.plan.proofs.ChangeLemmas.{one_bound}
use Rattle.plan.proofs.differences.bounds_are_determined.Goals as goal

pub returns : goal.returns
returns g c = one_bound g.met.T.PartialOrder.order g.met.T.Ord.total
