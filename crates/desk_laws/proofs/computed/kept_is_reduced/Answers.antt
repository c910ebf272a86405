use Rattle.desk_laws.proofs.ReducedLemmas.{kept_reduce}
use Rattle.desk_laws.proofs.computed.kept_is_reduced.Goals as goal

pub returns : goal.returns
returns g c p q w k d e bundle more sharing within kind source at desks r s there then shape stands pends x =
    kept_reduce g.T.PartialOrder.times g.met.T.PartialOrder.order g.met.T.Lattice.bounds p q w k d e bundle more sharing within kind source at desks r s there then shape stands pends x
