use Rattle.std.proofs.Common.{◌<◌, ap, subst, ◌∙◌}
use Rattle.plan.specs.Nodes.{arranged_by}
use Rattle.machine.proofs.BoardLemmas.RoutingLemmas.{arranged_more}
use Rattle.machine.proofs.board.routing.arranged_of.Goals as goal

pub loop-n-preserved : goal.loop-n-preserved
loop-n-preserved c =
    let i = c.loop-n in
    arranged_more c.args.plan.now i.columns.items c.push.new.self.items i.n c.new.result c.arranged_by.result (subst (λ k. i.n < k) c.len-n-end.ensures.len c.loop-n-test.true) c.new.ensures
    (c.arranged_by.ensures ∙ ap arranged_by c.node.ensures) i.invariant c.in_ok-push.ensures.items
