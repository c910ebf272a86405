use Rattle.std.proofs.Common.{sym, subst, ◌∙◌, ap}
use Rattle.plan.specs.Nodes.{key_width}
use Rattle.plan.specs.Widths.{width_of, width_from}
use Rattle.plan.specs.Rules.{node_refusal}
use Rattle.plan.specs.Stages.{AreStages}
use Rattle.plan.proofs.StageLemmas.{stages_with}
use Rattle.plan.proofs.plan.Plan.push.Goals as goal

pub invariant_of-self-2 : goal.invariant_of-self-2
invariant_of-self-2 c =
    subst AreStages (sym c.in_ok-push.ensures.items)
    (stages_with c.self.inside.stages.items (record { node = c.args.node; width = c.width_from-width.result }) c.self.invariant
    (ap (λ p. node_refusal p c.args.node) c.self.view_is ∙ c.requires)
    (c.width_from-width.ensures ∙ ap (λ p. width_from (key_width p c.args.node) c.args.node (width_of p)) (sym c.self.view_is)))
