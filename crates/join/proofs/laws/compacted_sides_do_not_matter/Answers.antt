use Rattle.lattice.proofs.BoundLemmas.{join_below}
use Rattle.join.specs.declared.side.Side.TheVariants.{Left, Right}
use Rattle.join.proofs.VisibleLemmas.{side_compacted}
use Rattle.join.proofs.laws.compacted_sides_do_not_matter.Goals as goal

pub returns : goal.returns
returns g c =
    let order = g.met.T.PartialOrder.order in
    let compacted = side_compacted g.T.PartialOrder.times (join_below order g.met.T.Lattice.bounds) order in
    record {
      right = compacted Left;
      left = λ k F us ws vs a same. compacted Right k F vs us ws a same;
    }
