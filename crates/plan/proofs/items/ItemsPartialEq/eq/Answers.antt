use Rattle.std.proofs.Common.{rules, ◌≡◌, sym, ◌∙◌}
use Rattle.plan.specs.Equality.{same_items, items_decide}
use Rattle.plan.proofs.items.ItemsPartialEq.eq.Goals as goal

pub returns-clause-same : goal.returns-clause-same
returns-clause-same c =
    let value : c.eq.result ≡ same_items c.args.self.now c.args.other.now = search rules in
    let decides = items_decide c.args.self.now c.args.other.now in
    ((λ h. decides.0 (sym value ∙ h)), (λ e. value ∙ decides.1 e))
