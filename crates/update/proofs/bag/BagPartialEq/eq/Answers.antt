use Rattle.std.proofs.Common.{sym, ◌∙◌}
use Rattle.update.specs.Equality.{bags_decide}
use Rattle.update.proofs.BagLemmas.{same_by_items}
use Rattle.update.proofs.bag.BagPartialEq.eq.Goals as goal

pub returns-clause-value : goal.returns-clause-value
returns-clause-value c =
    c.eq.ensures ∙ same_by_items _ _ _ _ _ _ c.as_slice.ensures.value c.as_slice-2.ensures.value c.self.view_is c.other.view_is

pub returns-clause-same : goal.returns-clause-same
returns-clause-same c =
    let decides = bags_decide c.args.self.now c.args.other.now in
    ((λ h. decides.0 (sym (returns-clause-value c) ∙ h)), (λ e. returns-clause-value c ∙ decides.1 e))
