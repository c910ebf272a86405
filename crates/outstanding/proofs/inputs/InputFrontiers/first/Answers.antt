use Rattle.std.proofs.Common.{◌≡◌, ap, ◌∙◌, cond, [], ◌∷◌, ◌<◌, subst}
use Rattle.plan.specs.Nodes.{node_at}
use Rattle.outstanding.proofs.OpenLemmas.{first_more}
use Rattle.outstanding.proofs.inputs.InputFrontiers.first.Goals as goal

pub loop-n-preserved : goal.loop-n-preserved
loop-n-preserved g c =
    let i = c.loop-n in
    let times = g.T.PartialOrder.times in
    let node : c.node.result.now ≡ node_at c.args.plan.now i.n = c.node.ensures ∙ ap (node_at c.args.plan.now) c.new.ensures in
    first_more times.least c.args.plan.now i.by_node.items c.push.new.self.items i.n c.node.result.now c.in_ok-first_frontier.field-0 (subst (λ k. i.n < k) c.len-n-end.ensures.len c.loop-n-test.true) node (c.in_ok-first_frontier.ensures.first ∙ ap (λ b. cond b (times.least ∷ []) []) c.is_input.ensures) i.invariant c.in_ok-push.ensures.items
