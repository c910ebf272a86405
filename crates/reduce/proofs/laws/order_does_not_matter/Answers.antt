use Rattle.reduce.proofs.PermutedLemmas.{stands_permuted}
use Rattle.reduce.proofs.laws.order_does_not_matter.Goals as goal

pub returns : goal.returns
returns g c = record { stands = λ k reduce q since hs taken taken2 given given2 p r. stands_permuted g.met.T.PartialOrder.order g.met.T.Lattice.bounds k reduce q hs taken taken2 given given2 p r since }
