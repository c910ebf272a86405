use Rattle.std.proofs.Common.{◌<◌, ◌||◌, length, get_or, eqb, false, ap, ap₂, ◌∙◌, arith}
use Rattle.std.specs.List.{list_any}
use Rattle.std.proofs.lemmas.List.{length-set}
use Rattle.plan.specs.Nodes.{node_at, sources}
use Rattle.plan.proofs.EdgeLemmas.{marks_with}
use Rattle.plan.proofs.plan.Plan.reaches.Goals as goal

pub loop-n-preserved : goal.loop-n-preserved
loop-n-preserved c =
    let marks = c.loop-n.marks in
    let mark = eqb c.number.result c.loop-n.n || c.reads_marked.result in
    let within : c.loop-n.n < length marks = (let l = c.loop-n-test.true in let few = c.len-n-end.ensures.few in let all = c.loop-n.invariant.0 in omega arith) in (
      length-set marks c.loop-n.n mark ∙ c.loop-n.invariant.0,
      marks_with c.args.self.now c.len-n-end.ensures.plan c.args.above c.loop-n.n marks within c.loop-n.invariant.1 mark
          (ap₂ (λ above reads. eqb above c.loop-n.n || reads) c.number.ensures
          (c.reads_marked.ensures ∙ ap (λ node. list_any (λ source. get_or marks source false) (sources node)) (c.node-node.ensures ∙ ap (node_at c.args.self.now) c.new.ensures))),
    )
