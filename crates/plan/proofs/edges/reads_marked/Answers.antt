use Rattle.std.proofs.Common.{◌||◌, slice_get, ap, sym, ◌∙◌}
use Rattle.plan.specs.Nodes.{sources}
use Rattle.plan.specs.Edges.{is_marked}
use Rattle.plan.proofs.EdgeLemmas.{marked_at_ports}
use Rattle.plan.proofs.edges.reads_marked.Goals as goal

pub returns-then-is_marked : goal.returns-then-is_marked
returns-then-is_marked c =
    let first = c.is_marked.ensures ∙ ap (is_marked c.args.marks.now) c.source.ensures in
    c.if-is_marked.true
    ∙ sym (marked_at_ports c.args.marks.now c.args.node.now ∙ ap (λ b. b || is_marked c.args.marks.now (slice_get (sources c.args.node.now) 1)) (sym first ∙ c.if-is_marked.true))

pub returns-else-is_marked : goal.returns-else-is_marked
returns-else-is_marked c =
    let first = c.is_marked.ensures ∙ ap (is_marked c.args.marks.now) c.source.ensures in
    let second = c.is_marked-else-is_marked.ensures ∙ ap (is_marked c.args.marks.now) c.source-else-is_marked.ensures in
    second
    ∙ sym (marked_at_ports c.args.marks.now c.args.node.now ∙ ap (λ b. b || is_marked c.args.marks.now (slice_get (sources c.args.node.now) 1)) (sym first ∙ c.if-is_marked.false))
