use Rattle.std.proofs.Common.{◌≡◌, take}
use Rattle.plan.proofs.plan.PlanClone.clone.Given as goal

-- the nodes so far are copied
abbrev pub invariant-loop-stage : goal.invariant-loop-stage
invariant-loop-stage l = l.stages.items ≡ take l.stage-index l.stage-items
