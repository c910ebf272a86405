use Rattle.std.proofs.Common.{◌≡◌, ◌∙◌, sym, subst, ap, rules}
use Rattle.update.proofs.CopyLemmas.{copied_more, copied_all}
use Rattle.plan.specs.declared.plan.Stage.{Stage}
use Rattle.plan.specs.Stages.{AreStages}
use Rattle.plan.proofs.plan.PlanClone.clone.Goals as goal

pub loop-stage-preserved : goal.loop-stage-preserved
loop-stage-preserved c =
    let node : c.in_ok-node.node ≡ c.stage-item.result.node = search rules in
    let stage = ap {B = Stage} (λ n. record { node = n; width = c.stage-item.result.width }) node in
    copied_more c.deref-stage-items.result.now c.loop-stage.stage-index _ _ _ _ c.loop-stage-test.true c.loop-stage.invariant c.stage-item.is stage c.in_ok-push.ensures.items

pub invariant_of-result : goal.invariant_of-result
invariant_of-result c =
    let all : c.loop-stage.stages.items ≡ c.self.inside.stages.items = copied_all _ _ _ c.loop-stage-test.false c.loop-stage.invariant ∙ c.deref-stage-items.ensures.value in
    subst AreStages (sym all) c.self.invariant

pub returns : goal.returns
returns c =
    let all : c.loop-stage.stages.items ≡ c.self.inside.stages.items = copied_all _ _ _ c.loop-stage-test.false c.loop-stage.invariant ∙ c.deref-stage-items.ensures.value in
    record { cases = rw all c.self.view_is }
