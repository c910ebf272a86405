use Rattle.lattice.proofs.BoundLemmas.{join_below, below_meet, join_commutes, join_associates, join_same}
use Rattle.lattice.proofs.laws.bounds_are_tested_apart.Goals as goal

pub returns : goal.returns
returns g c =
    let order = g.met.T.PartialOrder.order in
    let bounds = g.met.T.Lattice.bounds in
    record {
      join_below = join_below order bounds;
      below_meet = below_meet order bounds;
      join_commutes = join_commutes order bounds;
      join_associates = join_associates order bounds;
      join_same = join_same order bounds;
    }
