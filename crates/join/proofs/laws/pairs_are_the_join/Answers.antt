use Rattle.lattice.proofs.BoundLemmas.{join_below}
use Rattle.join.proofs.PairLemmas.{pairs_at, size_pairs}
use Rattle.join.proofs.laws.pairs_are_the_join.Goals as goal

pub returns : goal.returns
returns g c =
    let times = g.T.PartialOrder.times in
    let tested = join_below g.met.T.PartialOrder.order g.met.T.Lattice.bounds in
    record {
      sums = λ k us vs t. pairs_at times tested k t us vs;
      size = size_pairs times;
    }
