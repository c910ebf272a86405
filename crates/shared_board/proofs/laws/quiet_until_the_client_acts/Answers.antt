use Rattle.std.proofs.Common.{refl}
use Rattle.shared_board.proofs.QuietLemmas.{stays}
use Rattle.shared_board.proofs.laws.quiet_until_the_client_acts.Goals as goal

pub returns : goal.returns
returns g c = λ t one others seen none on legal quiet. stays g.T.PartialOrder.times t.dataflow t t.dataflow.workers others seen refl one none on legal quiet
