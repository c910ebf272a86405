use Rattle.operator_laws.proofs.JoinLemmas.{same_joining}
use Rattle.operator_laws.proofs.join_nodes.joined_elsewhere.Goals as goal

pub returns : goal.returns
returns g c p w n k left right waiting j e allowed other = same_joining g.T.PartialOrder.times g.met.T.PartialOrder.order p w n k left right waiting j e allowed other
