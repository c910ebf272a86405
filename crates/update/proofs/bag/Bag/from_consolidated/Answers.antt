use Rattle.update.proofs.BagLemmas.{bag_from_consolidated}
use Rattle.update.proofs.bag.Bag.from_consolidated.Goals as goal

pub invariant_of-result : goal.invariant_of-result
invariant_of-result c = bag_from_consolidated c.args.entries.items c.requires
