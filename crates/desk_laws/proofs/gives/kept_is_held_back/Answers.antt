use Rattle.desk_laws.proofs.GivenLemmas.{held_back_lem}
use Rattle.desk_laws.proofs.gives.kept_is_held_back.Goals as goal

pub returns : goal.returns
returns g c p q w k n within d held more is_held x =
    held_back_lem g.T.PartialOrder.times g.met.T.PartialOrder.order p q w k n within d held more is_held x
