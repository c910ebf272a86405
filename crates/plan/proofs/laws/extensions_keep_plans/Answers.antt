use Rattle.plan.proofs.PlanLemmas.{plan_before_more}
use Rattle.plan.proofs.StepLemmas.{width_before_more, query_before_more, above_before_more, bound_before_more}
use Rattle.plan.proofs.laws.extensions_keep_plans.Goals as goal

pub returns-clause-plan : goal.returns-clause-plan
returns-clause-plan c = plan_before_more

pub returns-clause-widths : goal.returns-clause-widths
returns-clause-widths c = width_before_more

pub returns-clause-queries : goal.returns-clause-queries
returns-clause-queries c = query_before_more

pub returns-clause-above : goal.returns-clause-above
returns-clause-above c = above_before_more

pub returns-clause-bounds : goal.returns-clause-bounds
returns-clause-bounds c = bound_before_more
