use Rattle.std.proofs.Common.{◌∙◌, sym}
use Rattle.steps.proofs.OutputLemmas.{ready_back}
use Rattle.steps.proofs.give.put_back.Goals as goal

pub returns-in-Ready : goal.returns-in-Ready
returns-in-Ready g c before was is = ready_back before c.in-Ready.node c.in-Ready.updates c.into.result (sym c.in-Ready.is ∙ was) (c.into.ensures ∙ is)
