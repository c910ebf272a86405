use Rattle.std.proofs.Common.{◌≡◌, ◌+◌, ◌∙◌, ap, sym, arith}
use Rattle.plan.specs.Nodes.{node_at, is_input}
use Rattle.oracle.proofs.EvaluationLemmas.{inputs_few, inputs_with, inputs_without}
use Rattle.oracle.proofs.evaluation.inputs_before.Goals as goal

pub overflow_add-count : goal.overflow_add-count
overflow_add-count c = omega (arith, inputs_few c.args.plan.now c.loop-n.n, c.loop-n.invariant)

pub loop-n-preserved : goal.loop-n-preserved
loop-n-preserved c =
    let p = c.args.plan.now in
    let n = c.loop-n.n in
    let here : c.is_input.result ≡ is_input (node_at p n) = c.is_input.ensures ∙ ap is_input (c.node.ensures ∙ ap (node_at p) c.new.ensures) in
    elim c.if-is_input.branch [
      | goal.then-is_input w ↦ rw w.count-is (ap (λ m. m + 1) c.loop-n.invariant ∙ sym (inputs_with p n (sym here ∙ w.if-is_input.true)))
      | goal.else-is_input w ↦ rw w.count-is (c.loop-n.invariant ∙ sym (inputs_without p n (sym here ∙ w.if-is_input.false)))
    ]
