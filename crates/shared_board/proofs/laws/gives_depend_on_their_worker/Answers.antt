use Rattle.shared_board.proofs.ApartLemmas.{give_apart}
use Rattle.shared_board.proofs.laws.gives_depend_on_their_worker.Goals as goal

pub returns : goal.returns
returns g c = λ p w v e ts sent same may. give_apart g.T.PartialOrder.times p w v e ts sent same may
