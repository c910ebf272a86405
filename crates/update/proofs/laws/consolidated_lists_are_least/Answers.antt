use Rattle.update.proofs.LeastLemmas.{least_size}
use Rattle.update.proofs.laws.consolidated_lists_are_least.Goals as goal

pub returns : goal.returns
returns g c = least_size g.met.T.PartialOrder.order g.met.T.Ord.total
