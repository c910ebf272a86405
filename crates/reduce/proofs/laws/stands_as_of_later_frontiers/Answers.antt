use Rattle.reduce.proofs.LawLemmas.{stands_later}
use Rattle.reduce.proofs.laws.stands_as_of_later_frontiers.Goals as goal

pub returns : goal.returns
returns g c = record { stands = stands_later g.met.T.PartialOrder.order g.met.T.Lattice.bounds }
