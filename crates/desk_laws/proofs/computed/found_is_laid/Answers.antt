use Rattle.desk_laws.proofs.FoundLemmas.{found_reduce}
use Rattle.desk_laws.proofs.computed.found_is_laid.Goals as goal

pub returns : goal.returns
returns g c p q es legal k d e sharing n within kind source at desks r s there then shape a read upper out stands settled later out_beyond rest_beyond x =
    found_reduce g.T.PartialOrder.times g.met.T.PartialOrder.order g.met.T.Lattice.bounds p q es legal k d e sharing n within kind source at desks r s there then shape a read upper out stands settled later out_beyond rest_beyond x
