use Rattle.linear.proofs.WidthLemmas.{plan_takes, plan_gives}
use Rattle.linear.proofs.laws.plans_fit.Goals as goal

pub returns-clause-takes : goal.returns-clause-takes
returns-clause-takes g c = λ p plan n port s e us w. plan_takes p plan n port s e us w

pub returns-clause-gives : goal.returns-clause-gives
returns-clause-gives g c = λ p plan n port s e l us w. plan_gives p plan n port s e l us w
