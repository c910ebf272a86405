use Rattle.plan.proofs.OperatorLemmas.{given_parts, given_workers}
use Rattle.plan.proofs.laws.keyed_operators_add_up.Goals as goal

pub returns-clause-parts : goal.returns-clause-parts
returns-clause-parts c = given_parts

pub returns-clause-workers : goal.returns-clause-workers
returns-clause-workers c = given_workers
