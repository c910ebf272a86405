use Rattle.std.specs.Prelude.{[]}
use Rattle.operator_laws.proofs.GatheredLemmas.{cut_none, no_emission}
use Rattle.operator_laws.proofs.ReduceLemmas.{may_answer, gave_reducing, found_none}
use Rattle.operator_laws.proofs.reduce_nodes.reduced_holds_back.Goals as goal

pub returns : goal.returns
returns g c p q w n k upper pending held r hand is_held =
    let order = g.met.T.PartialOrder.order in
    let found = found_none g.T.PartialOrder.times order p q w n k upper pending r in
    let cut = cut_none g.T.PartialOrder.times p n k in
    (may_answer g.T.PartialOrder.times order p q w (no_emission n k) upper pending upper pending held [] r hand found is_held cut, gave_reducing g.T.PartialOrder.times order p q w (no_emission n k) upper pending upper pending held [] r hand found is_held cut)
