use Rattle.progress.specs.Tallies.{is_upstream, is_input_upstream, is_port_upstream}
use Rattle.progress.proofs.FrontierLemmas.{added_beyond}
use Rattle.progress.proofs.laws.what_is_beyond_moves_nothing_back.Goals as goal

pub returns-clause-frontier : goal.returns-clause-frontier
returns-clause-frontier g c nodes xs n x t beyond =
    added_beyond g.T.PartialOrder.times g.met.T.PartialOrder.order (is_upstream nodes n) xs x t beyond

pub returns-clause-input : goal.returns-clause-input
returns-clause-input g c nodes xs n x t beyond =
    added_beyond g.T.PartialOrder.times g.met.T.PartialOrder.order (is_input_upstream nodes n) xs x t beyond

pub returns-clause-port : goal.returns-clause-port
returns-clause-port g c nodes xs n p x t beyond =
    added_beyond g.T.PartialOrder.times g.met.T.PartialOrder.order (is_port_upstream nodes n p) xs x t beyond
