use Rattle.desk_laws.proofs.OthersLemmas.{others_leave}
use Rattle.desk_laws.proofs.takes.others_leave_it.Goals as goal

pub returns : goal.returns
returns g c t k others seen none on dataflow legal d h x =
    others_leave g.T.PartialOrder.times g.met.T.PartialOrder.order t.dataflow dataflow t k others seen none on legal d h x
