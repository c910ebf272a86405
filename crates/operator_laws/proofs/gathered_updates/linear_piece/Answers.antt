use Rattle.operator_laws.proofs.GatheredLemmas.{linear_piece_lem}
use Rattle.operator_laws.proofs.gathered_updates.linear_piece.Goals as goal

pub returns : goal.returns
returns g c k node l port h received us = linear_piece_lem g.T.PartialOrder.times k node l port h received us
