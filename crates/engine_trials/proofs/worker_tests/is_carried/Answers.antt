use Rattle.std.proofs.Common.{ℕ, ◌<◌, List, ◌∷◌, [], length, IsTrue, sym, refl, subst, ap, arith}
use Rattle.plan.specs.Nodes.{is_input}
use Rattle.plan.specs.declared.kind.Kind.TheVariants.{Min}
use Rattle.plan.specs.declared.node.Node.{Node}
use Rattle.plan.specs.declared.node.Node.TheVariants.{Arrange, Input, Output, Reduce}
use Rattle.histories.specs.Histories.Dataflows.{node_of}
use Rattle.shared_board.specs.Tenures.{Opening, opening_for, opening_in}
use Rattle.engine_trials.proofs.worker_tests.is_carried.Goals as goal

abbrev least_rows_plan : List Node
least_rows_plan = Input 1 ∷ Arrange 0 1 ∷ Reduce Min 1 ∷ Output 2 ∷ []

pub feed-requires-clause-client : goal.feed-requires-clause-client
feed-requires-clause-client g c =
    let first = c.in_ok-worker.ensures.client in
    let one = first.numbered in
    let alone = ap (λ (t : Opening). t.dataflow.workers) (ap opening_in first.seen) in
    omega (arith, one, alone)

pub feed-requires-clause-input : goal.feed-requires-clause-input
feed-requires-clause-input g c =
    let terms = ap opening_in c.in_ok-worker.ensures.client.seen in
    subst (λ (t : Opening). (c.new-3.result < length t.dataflow.nodes) × IsTrue (is_input (node_of t.dataflow c.new-3.result))) (sym terms)
    (subst (λ (p : List Node). (c.new-3.result < length p) × IsTrue (is_input (node_of (opening_for p 1 1).dataflow c.new-3.result))) (sym c.in_ok-plan.ensures)
    (subst (λ (n : ℕ). (n < length least_rows_plan) × IsTrue (is_input (node_of (opening_for least_rows_plan 1 1).dataflow n))) (sym c.new-3.ensures) (omega (arith), refl)))
