use Rattle.std.proofs.Common.{sym, subst, ◌∙◌}
use Rattle.plan.specs.Nodes.{node_at, key_width}
use Rattle.operator.specs.Reductions.{HasRoom}
use Rattle.desk.proofs.OpenLemmas.{reduction_fits}
use Rattle.desk.proofs.fresh.reduction_of.Goals as goal

pub new-requires : goal.new-requires
new-requires g c =
    let p = c.args.plan.now in
    let n = c.args.node in
    subst (λ k. HasRoom c.in-Reduce.kind k c.width.result) (sym c.key_width.ensures)
    (subst (λ w. HasRoom c.in-Reduce.kind (key_width p (node_at p n)) w) (sym c.width.ensures.width)
    (reduction_fits p c.known.ensures.plan n c.requires c.in-Reduce.kind c.in-Reduce.source (sym c.node.ensures ∙ c.in-Reduce.is)))
