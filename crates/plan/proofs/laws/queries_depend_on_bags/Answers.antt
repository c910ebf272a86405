use Rattle.plan.proofs.FedLemmas.{alike_where_fed}
use Rattle.plan.proofs.OperatorLemmas.{given_alike}
use Rattle.plan.proofs.QueryLemmas.{query_alike}
use Rattle.plan.proofs.laws.queries_depend_on_bags.Goals as goal

pub returns-clause-operators : goal.returns-clause-operators
returns-clause-operators c = λ k node a b h. given_alike k node a b (λ port s. h port)

pub returns-clause-queries : goal.returns-clause-queries
returns-clause-queries c = query_alike

pub returns-clause-fed : goal.returns-clause-fed
returns-clause-fed c = alike_where_fed (λ k node a b h. given_alike k node a b (λ port s. h port))
