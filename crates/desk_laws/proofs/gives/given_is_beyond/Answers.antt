use Rattle.desk_laws.proofs.BeyondLemmas.{batch_beyond, ready_beyond}
use Rattle.desk_laws.proofs.gives.given_is_beyond.Goals as goal

pub returns-clause-ready : goal.returns-clause-ready
returns-clause-ready g c p w k n d us held sent is_held x =
    ready_beyond g.T.PartialOrder.times g.met.T.PartialOrder.order p w k n d held is_held us sent x

pub returns-clause-sealed : goal.returns-clause-sealed
returns-clause-sealed g c p w k n d batch held sent is_held x =
    batch_beyond g.T.PartialOrder.times g.met.T.PartialOrder.order p w k n d held is_held batch sent x
