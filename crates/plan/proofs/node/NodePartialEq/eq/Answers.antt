use Rattle.std.proofs.Common.{sym, ◌∙◌}
use Rattle.plan.specs.NodeEquality.{nodes_decide}
use Rattle.plan.proofs.node.NodePartialEq.eq.Goals as goal

pub returns-clause-same : goal.returns-clause-same
returns-clause-same c =
    let decides = nodes_decide c.args.self.now c.args.other.now in
    ((λ h. decides.0 (sym c.is_same.ensures ∙ h)), (λ e. c.is_same.ensures ∙ decides.1 e))
