use Rattle.desk_laws.proofs.LaidLemmas.{kept_lem}
use Rattle.desk_laws.proofs.computed.kept_is_laid.Goals as goal

pub returns : goal.returns
returns g c p q w k d e sharing bundle more within linear desks arranged split x =
    kept_lem g.T.PartialOrder.times g.met.T.PartialOrder.order p q w k d e sharing bundle more within linear desks arranged split x
