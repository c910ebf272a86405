use Rattle.progress.specs.Tallies.{is_upstream, is_input_upstream, is_port_upstream}
use Rattle.progress.proofs.FrontierLemmas.{downgraded}
use Rattle.progress.proofs.laws.downgrades_move_nothing_back.Goals as goal

pub returns-clause-frontier : goal.returns-clause-frontier
returns-clause-frontier g c nodes old new n x later d =
    downgraded g.T.PartialOrder.times g.met.T.PartialOrder.order (is_upstream nodes n) old new x later d

pub returns-clause-input : goal.returns-clause-input
returns-clause-input g c nodes old new n x later d =
    downgraded g.T.PartialOrder.times g.met.T.PartialOrder.order (is_input_upstream nodes n) old new x later d

pub returns-clause-port : goal.returns-clause-port
returns-clause-port g c nodes old new n p x later d =
    downgraded g.T.PartialOrder.times g.met.T.PartialOrder.order (is_port_upstream nodes n p) old new x later d
