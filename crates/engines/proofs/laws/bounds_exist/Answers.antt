use Rattle.engines.proofs.EveryBoundLemmas.{bound_of}
use Rattle.engines.proofs.laws.bounds_exist.Goals as goal

pub returns : goal.returns
returns g c p plan changes n =
    bound_of g.met.T.PartialOrder.order g.met.T.Lattice.bounds g.met.T.Lattice.extends g.met.T.Ord.total p plan changes n
