use Rattle.std.proofs.Common.{not, rules}
use Rattle.std.proofs.lemmas.Fn.{filter_same}
use Rattle.histories.proofs.stamp.leave.Goals as goal

pub returns : goal.returns
returns g c = record { left = filter_same _ (λ f. not (g.T.PartialOrder.times.below c.args.t f)) _ (λ x b p r. search rules) _ _ c.retain.ensures.filtered }
