use Rattle.plan.proofs.OperatorLemmas.{given_sum, given_nothing}
use Rattle.plan.proofs.laws.linear_operators_add_up.Goals as goal

pub returns-clause-sums : goal.returns-clause-sums
returns-clause-sums c = given_sum

pub returns-clause-nothing : goal.returns-clause-nothing
returns-clause-nothing c = given_nothing
