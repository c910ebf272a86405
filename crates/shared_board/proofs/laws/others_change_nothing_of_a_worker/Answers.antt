use Rattle.shared_board.proofs.ActorLemmas.{others_apart}
use Rattle.shared_board.proofs.laws.others_change_nothing_of_a_worker.Goals as goal

pub returns : goal.returns
returns g c = λ t k others seen none on. others_apart g.T.PartialOrder.times t.dataflow t k others seen none on
