use Rattle.operator_laws.proofs.QueueLemmas.{queued_more}
use Rattle.operator_laws.proofs.join_nodes.queued_inserts.Goals as goal

pub returns : goal.returns
returns g c p w n port e reads stays worker within few some ts upper inserted taken q = queued_more g.T.PartialOrder.times p n port e reads stays worker within few w ts upper inserted taken some q
