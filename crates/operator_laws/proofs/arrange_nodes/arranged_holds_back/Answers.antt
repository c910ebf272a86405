use Rattle.std.specs.Prelude.{[], refl}
use Rattle.operator_laws.proofs.ArrangeLemmas.{may_insert, gave_none}
use Rattle.operator_laws.proofs.GatheredLemmas.{cut_none, no_emission}
use Rattle.operator_laws.proofs.arrange_nodes.arranged_holds_back.Goals as goal

pub returns : goal.returns
returns g c p q w n k start inserted waiting rest held a hand split is_held =
    let order = g.met.T.PartialOrder.order in
    let cut = cut_none g.T.PartialOrder.times p n k in
    (may_insert g.T.PartialOrder.times order p q w (no_emission n k) [] start inserted waiting rest held a hand split is_held cut, gave_none g.T.PartialOrder.times order p q w (no_emission n k) [] start inserted waiting rest held a hand split is_held cut refl)
