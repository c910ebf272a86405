use Rattle.engines.proofs.BagLemmas.{consolidated_bag-is_bag, consolidated_bag-alike, consolidated_bag-only}
use Rattle.engines.proofs.laws.the_bag_of_entries.Goals as goal

pub returns-clause-bag : goal.returns-clause-bag
returns-clause-bag c = consolidated_bag-is_bag

pub returns-clause-alike : goal.returns-clause-alike
returns-clause-alike c = consolidated_bag-alike

pub returns-clause-only : goal.returns-clause-only
returns-clause-only c = consolidated_bag-only
