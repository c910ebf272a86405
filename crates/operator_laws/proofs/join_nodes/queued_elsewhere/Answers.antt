use Rattle.operator_laws.proofs.QueueLemmas.{queued_on}
use Rattle.operator_laws.proofs.join_nodes.queued_elsewhere.Goals as goal

pub returns : goal.returns
returns g c p w n port k source reads stays inserted taken q e a d = queued_on g.T.PartialOrder.times p n port k source reads stays w inserted taken q e a d
