use Rattle.std.proofs.Common.{refl}
use Rattle.desk_laws.proofs.LaidLemmas.{sealed_lem}
use Rattle.desk_laws.proofs.computed.sealed_is_laid.Goals as goal

pub returns : goal.returns
returns g c p q w k d e sharing n source key within node desks upper batch split same arranged next x =
    sealed_lem g.T.PartialOrder.times g.met.T.PartialOrder.order p q w k d e sharing n within desks batch.updates split source key node upper batch refl same arranged next x
