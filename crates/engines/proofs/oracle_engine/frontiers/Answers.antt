use Rattle.std.proofs.Common.{◌≡◌, ◌∙◌, ap, sym}
use Rattle.lattice.specs.Bitimes.{bitime_times}
use Rattle.lattice.specs.Frontiers.{is_beyond}
use Rattle.plan.specs.Nodes.{node_at, is_input}
use Rattle.outstanding.specs.Inputs.{front_at}
use Rattle.engines.proofs.OracleEngineLemmas.{some_more, some_same}
use Rattle.engines.proofs.oracle_engine.frontiers.Goals as goal

pub loop-n-preserved : goal.loop-n-preserved
loop-n-preserved c =
    let p = c.args.plan.now in
    let n = c.loop-n.n in
    let inputs = c.args.inputs.now in
    let old = c.loop-n.all.items in
    let here : c.is_input.result ≡ is_input (node_at p n) = c.is_input.ensures ∙ ap is_input (c.node.ensures ∙ ap (node_at p) c.new.ensures) in
    elim c.if-is_input.branch [
      | goal.then-is_input+in_ok-frontier+in_ok-push w ↦
          rw w.all-is (some_more bitime_times p inputs n old w.push.new.self.items w.in_ok-frontier.frontier (sym here ∙ w.if-is_input.true) w.in_ok-push.ensures.items
          (λ t. w.in_ok-frontier.ensures.beyond t ∙ ap (λ ts. is_beyond bitime_times ts t) (w.of.ensures ∙ ap (λ i. front_at i inputs) w.new-then-is_input.ensures)) c.loop-n.invariant)
      | goal.else-is_input w ↦ rw w.all-is (some_same bitime_times p inputs n old (sym here ∙ w.if-is_input.false) c.loop-n.invariant)
    ]
