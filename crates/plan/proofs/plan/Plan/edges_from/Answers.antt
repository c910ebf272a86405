use Rattle.std.proofs.Common.{◌∙◌}
use Rattle.plan.proofs.EdgeLemmas.{edges_with}
use Rattle.plan.proofs.plan.Plan.edges_from.Goals as goal

pub loop-n-preserved : goal.loop-n-preserved
loop-n-preserved c = c.in_ok-push_edges.ensures.edges ∙ edges_with c.args.self.now c.args.id c.loop-n.n c.new.result c.loop-n.edges.items c.new.ensures c.loop-n.invariant
