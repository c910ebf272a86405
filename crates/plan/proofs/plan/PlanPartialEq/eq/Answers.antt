use Rattle.std.specs.Bool.{one_answer}
use Rattle.plan.specs.NodeEquality.{same_plan, plans_decide}
use Rattle.plan.proofs.plan.PlanPartialEq.eq.Goals as goal

pub returns-clause-value : goal.returns-clause-value
returns-clause-value c = one_answer c.are_same.result (same_plan c.args.self.now c.args.other.now) c.are_same.ensures (plans_decide c.args.self.now c.args.other.now)
