use Rattle.std.proofs.Common.{refl}
use Rattle.shared_board.proofs.ActorLemmas.{only_client}
use Rattle.shared_board.proofs.laws.one_client_makes_all_changes.Goals as goal

pub returns : goal.returns
returns g c = λ t one others seen none on legal. only_client g.T.PartialOrder.times t.dataflow t t.dataflow.workers others seen refl one none on legal
