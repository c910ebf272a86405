use Rattle.desk_laws.proofs.TurnedLemmas.{turned_lem}
use Rattle.desk_laws.proofs.takes.turned_is_laid.Goals as goal

pub returns : goal.returns
returns g c p q w k n turn d upper same x =
    turned_lem g.T.PartialOrder.times g.met.T.PartialOrder.order p q w k n turn d upper same x
