use Rattle.desk_laws.proofs.FirstLemmas.{first_lem}
use Rattle.desk_laws.proofs.takes.first_is_laid.Goals as goal

pub returns : goal.returns
returns g c p q k worker d sharing laid =
    first_lem g.T.PartialOrder.times g.met.T.PartialOrder.order p k worker d sharing laid
