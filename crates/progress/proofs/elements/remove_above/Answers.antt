use Rattle.std.proofs.Common.{not, rules}
use Rattle.std.proofs.lemmas.Fn.{filter_same}
use Rattle.progress.proofs.elements.remove_above.Goals as goal

pub returns-clause-left : goal.returns-clause-left
returns-clause-left g c = filter_same _ (λ f. not (g.T.PartialOrder.times.below c.args.t f)) _ (λ x b p r. search rules) _ _ c.retain.ensures.filtered
