use Rattle.progress.proofs.PortLemmas.{ports_pass}
use Rattle.progress.proofs.laws.ports_make_the_input_frontier.Goals as goal

pub returns : goal.returns
returns g c nodes xs n t plan placed reads =
    ports_pass nodes plan n reads g.T.PartialOrder.times g.met.T.PartialOrder.order xs t placed
