use Rattle.desk_laws.proofs.JoinedLemmas.{kept_left, kept_right}
use Rattle.desk_laws.proofs.computed.kept_is_joined.Goals as goal

pub returns-clause-left : goal.returns-clause-left
returns-clause-left g c p q w k d e sharing bundle more within l r at desks j i there then port upper looked is boundary answer x =
    kept_left g.T.PartialOrder.times g.met.T.PartialOrder.order p q w k d e sharing bundle more within l r at desks j i there then x port upper looked is boundary answer

pub returns-clause-right : goal.returns-clause-right
returns-clause-right g c p q w k d e sharing bundle more within l r at desks j i there then port upper looked is boundary answer x =
    kept_right g.T.PartialOrder.times g.met.T.PartialOrder.order p q w k d e sharing bundle more within l r at desks j i there then x port upper looked is boundary answer
