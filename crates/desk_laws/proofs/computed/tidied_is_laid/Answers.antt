use Rattle.desk_laws.proofs.MergedLemmas.{tidied_lem}
use Rattle.desk_laws.proofs.computed.tidied_is_laid.Goals as goal

pub returns : goal.returns
returns g c p w k d e stay merged x =
    tidied_lem g.T.PartialOrder.times p d e merged g.met.T.PartialOrder.order w k stay x
