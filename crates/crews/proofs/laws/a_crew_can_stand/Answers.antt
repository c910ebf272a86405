use Rattle.crews.proofs.WitnessLemmas.{client_stands}
use Rattle.crews.proofs.laws.a_crew_can_stand.Goals as goal

pub returns : goal.returns
returns c = client_stands
