use Rattle.lattice.proofs.BoundLemmas.{join_below}
use Rattle.desk_laws.proofs.TakenLemmas.{taken_lem}
use Rattle.desk_laws.proofs.takes.taken_is_laid.Goals as goal

pub returns : goal.returns
returns g c p q w number bundle take stamped port within d more x =
    taken_lem g.T.PartialOrder.times g.met.T.PartialOrder.order (join_below g.met.T.PartialOrder.order g.met.T.Lattice.bounds) g.met.T.Lattice.bounds.join_left g.met.T.Lattice.bounds.join_right p q w number bundle take stamped port within d more x
