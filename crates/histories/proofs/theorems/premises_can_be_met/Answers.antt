use Rattle.histories.proofs.HistoryLemmas.ExampleLemmas.{example}
use Rattle.histories.proofs.theorems.premises_can_be_met.Goals as goal

pub returns : goal.returns
returns c = example
