use Rattle.std.proofs.Common.{not, rules}
use Rattle.std.proofs.lemmas.Fn.{filter_same}
use Rattle.operator.proofs.frontier.drop_later.Goals as goal

pub returns : goal.returns
returns g c =
    filter_same _ (λ e. not (g.T.PartialOrder.times.below c.args.t e)) _ (λ x b f r. search rules) _ _ c.retain.ensures.filtered
