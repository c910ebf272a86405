use Rattle.update.proofs.BagLemmas.{bags_by_counts}
use Rattle.update.proofs.laws.bags_are_determined.Goals as goal

pub returns : goal.returns
returns c = bags_by_counts
