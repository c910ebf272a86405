use Rattle.std.proofs.Common.{map, sym, subst}
use Rattle.linear.specs.Applied.{negated_update, HasLargeDiff, Overflows}
use Rattle.linear.proofs.application.overwrite.Goals as goal

pub returns-in-Negate-clause-overflow : goal.returns-in-Negate-clause-overflow
returns-in-Negate-clause-overflow g c = (
  (λ e. subst (λ node. Overflows node c.args.updates.now.items) (sym c.in-Negate.is) (subst (λ us. HasLargeDiff (map negated_update us)) c.deref_mut-in-Negate.ensures.value (c.negate_all.ensures.large.0 e))),
  (λ large. c.negate_all.ensures.large.1 (subst (λ us. HasLargeDiff (map negated_update us)) (sym c.deref_mut-in-Negate.ensures.value) (subst (λ node. Overflows node c.args.updates.now.items) c.in-Negate.is large))),
)
