use Rattle.desk_laws.proofs.MergedLemmas.{merged_lem}
use Rattle.desk_laws.proofs.computed.merged_is_laid.Goals as goal

pub returns : goal.returns
returns g c p w k d e sharing merged h on x =
    merged_lem g.T.PartialOrder.times p d e merged w k sharing h on x
