use Rattle.desk_laws.proofs.SealedLemmas.{empty_given, sealed_beyond, sealed_given}
use Rattle.desk_laws.proofs.gives.sealed_is_given.Goals as goal

pub returns-clause-some : goal.returns-clause-some
returns-clause-some g c p q w k n within d batch held is_held x some cuts e desks sharing waits into =
    sealed_given g.T.PartialOrder.times g.met.T.PartialOrder.order p q w k n within d batch held is_held x some cuts e desks sharing waits into

pub returns-clause-none : goal.returns-clause-none
returns-clause-none g c p q w k n within d batch held is_held x empty =
    empty_given g.T.PartialOrder.times g.met.T.PartialOrder.order p q w k n within d batch held is_held x empty

pub returns-clause-beyond : goal.returns-clause-beyond
returns-clause-beyond g c p q w k n within d batch held is_held x =
    sealed_beyond g.T.PartialOrder.times g.met.T.PartialOrder.order p q w k n within d batch held is_held x
