use Rattle.std.proofs.Common.{◌≡◌, Bool, true, false, not, ⊎_elim, eq-or-lt_of_le, refl, ap, sym, ◌∙◌, arith}
use Rattle.std.proofs.lemmas.Bool.{true≢false}
use Rattle.plan.specs.Nodes.{node_at}
use Rattle.plan.specs.NodeEquality.{same_node, nodes_decide}
use Rattle.plan.proofs.SameLemmas.{same_nodes}
use Rattle.plan.proofs.plan.are_same.Goals as goal

not_false : (b : Bool) → not b ≡ false → b ≡ true
not_false true e = refl
not_false false e = sym e

pub returns-then-ne : goal.returns-then-ne
returns-then-ne c =
    let ours = c.node.ensures ∙ ap (node_at c.args.plan.now) c.new-id.ensures in
    let theirs = c.node-in-loop-n.ensures ∙ ap (node_at c.args.other.now) c.new-id.ensures in (
      (λ h. absurd (true≢false (sym h))),
      (λ e.
          let same = (nodes_decide c.node.result.now c.node-in-loop-n.result.now).1 (ours ∙ ap (λ p. node_at p c.loop-n.n) e ∙ sym theirs) in
          sym (ap not same) ∙ sym c.ne.ensures ∙ c.if-ne.true),
    )

pub loop-n-preserved : goal.loop-n-preserved
loop-n-preserved c m l =
    let ours = c.node.ensures ∙ ap (node_at c.args.plan.now) c.new-id.ensures in
    let theirs = c.node-in-loop-n.ensures ∙ ap (node_at c.args.other.now) c.new-id.ensures in
    let same = (nodes_decide c.node.result.now c.node-in-loop-n.result.now).0 (not_false (same_node c.node.result.now c.node-in-loop-n.result.now) (sym c.ne.ensures ∙ c.if-ne.false)) in
    ⊎_elim
    (λ d. ap (node_at c.args.plan.now) d ∙ sym ours ∙ same ∙ theirs ∙ ap (node_at c.args.other.now) (sym d))
    (λ k. c.loop-n.invariant m k)
    (eq-or-lt_of_le (omega arith))

pub returns : goal.returns
returns c =
    let ours = c.len-n-end.ensures.len in
    let all = c.loop-n-test.false in
    ((λ h. same_nodes c.args.plan.now c.args.other.now (sym c.len.ensures.len ∙ c.if-len.false ∙ c.len-2.ensures.len) (λ m l. c.loop-n.invariant m (omega arith))), (λ e. refl))
