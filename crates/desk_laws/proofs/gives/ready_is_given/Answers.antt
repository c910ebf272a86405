use Rattle.desk_laws.proofs.GivenLemmas.{ready_lem}
use Rattle.desk_laws.proofs.gives.ready_is_given.Goals as goal

pub returns : goal.returns
returns g c p q w k n within d held us sent plain is_held cuts x =
    ready_lem g.T.PartialOrder.times g.met.T.PartialOrder.order p q w k n within d held us sent plain is_held cuts x
