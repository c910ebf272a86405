use Rattle.std.proofs.Common.{rules, ap, ◌∙◌}
use Rattle.std.specs.Prelude.{Some}
use mathlib.Core.Option.{none}
use Rattle.atomic_table.specs.Table.{step}
use Rattle.hub.proofs.ViewLemmas.{front}
use Rattle.hub.proofs.StepLemmas.{takes_allowed}
use Rattle.hub.proofs.hub.Hub.try_enter.Goals as goal

pub compare_exchange-found-requires : goal.compare_exchange-found-requires
compare_exchange-found-requires g c =
    let fits = ap (λ p. p.hub) c.pass.view_is ∙ c.requires in
    (fits, search rules, takes_allowed _ (step 0 0 0 0 none) _ _ _ c.pass.invariant.0)

pub exchange-requires : goal.exchange-requires
exchange-requires g c =
    let fits = ap (λ p. p.hub) c.pass.view_is ∙ c.requires in
    let done = c.compare_exchange-found.ensures in
    let taken = done.2.0 (search rules) in
    (done.0 ∙ fits, (Some taken.0, front _ _ _ _ taken.1))
