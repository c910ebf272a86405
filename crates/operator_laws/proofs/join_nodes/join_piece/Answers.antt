use Rattle.lattice.proofs.BoundLemmas.{join_below}
use Rattle.operator_laws.proofs.JoinLemmas.{left_piece, right_piece}
use Rattle.operator_laws.proofs.join_nodes.join_piece.Goals as goal

pub returns : goal.returns
returns g c = record {
  left = λ k l r node e received us out is. left_piece g.T.PartialOrder.times (join_below g.met.T.PartialOrder.order g.met.T.Lattice.bounds) k l r node e received us out is;
  right = λ k l r node e received us out is. right_piece g.T.PartialOrder.times (join_below g.met.T.PartialOrder.order g.met.T.Lattice.bounds) k l r node e received us out is;
}
