use Rattle.key_history.proofs.OverfullLemmas.{overfull_is_large}
use Rattle.reduce.proofs.laws.large_numbers_have_large_sizes.Goals as goal

pub returns : goal.returns
returns g c = record { sizes = overfull_is_large g.met.T.PartialOrder.order }
