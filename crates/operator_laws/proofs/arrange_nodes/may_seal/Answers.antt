use Rattle.operator_laws.proofs.ArrangeLemmas.{interval}
use Rattle.operator_laws.proofs.arrange_nodes.may_seal.Goals as goal

pub returns : goal.returns
returns g c p w n k start inserted waiting frontier a h = interval g.T.PartialOrder.times g.met.T.PartialOrder.order p w n k start inserted waiting frontier a h
