use Rattle.reduce.proofs.LawLemmas.{settled_law}
use Rattle.reduce.proofs.laws.settled_is_right.Goals as goal

pub returns : goal.returns
returns g c = record { sums = settled_law g.met.T.PartialOrder.order g.met.T.Lattice.bounds }
