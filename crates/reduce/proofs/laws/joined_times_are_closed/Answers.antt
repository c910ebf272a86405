use Rattle.joined_times.specs.Joined.{Member}
use Rattle.joined_times.proofs.JoinLemmas.{joins_have, joins_closed, joins_least}
use Rattle.reduce.proofs.laws.joined_times_are_closed.Goals as goal

pub returns : goal.returns
returns g c =
    record {
      times = joins_have g.T.PartialOrder.times;
      joins = joins_closed g.met.T.PartialOrder.order g.met.T.Lattice.bounds;
      least = λ ts us have closed. joins_least g.T.PartialOrder.times (λ t. Member t us) closed ts have;
    }
