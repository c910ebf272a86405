use Rattle.engines.proofs.WitnessLemmas.{register_stands}
use Rattle.engines.proofs.laws.the_oracle_engine_can_stand.Goals as goal

pub returns : goal.returns
returns g c p least = register_stands least p
