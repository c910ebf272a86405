use Rattle.lattice.proofs.BoundLemmas.{join_below}
use Rattle.operator_laws.proofs.JoinLemmas.{took_left}
use Rattle.operator_laws.proofs.join_nodes.joined_takes_left.Goals as goal

pub returns : goal.returns
returns g c p w n k left right inserted waiting out bundle place stamped j q take is = took_left g.T.PartialOrder.times g.met.T.PartialOrder.order p (join_below g.met.T.PartialOrder.order g.met.T.Lattice.bounds) w n k left right inserted waiting out j bundle place q stamped take is
