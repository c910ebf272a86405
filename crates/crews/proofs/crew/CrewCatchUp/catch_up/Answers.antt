use Rattle.std.proofs.Common.{inr, refl, subst, ◌∙◌}
use Rattle.histories.specs.Histories.Dataflows.{Dataflow}
use Rattle.engines.specs.Bounds.{IsLarge}
use Rattle.crews.proofs.crew.CrewCatchUp.catch_up.Goals as goal

-- what the client heard of has its cause in the session
pub returns-then-is_too_large-clause-refused : goal.returns-then-is_too_large-clause-refused
returns-then-is_too_large-clause-refused g c s a =
    let l = c.loop.invariant in
    let told = c.if-is_too_large.ensures.cause s (c.is_quiet.ensures.stands s (l.stands s a)) refl in
    inr (refl, subst (λ (p : Dataflow). IsLarge p.nodes s) (c.is_quiet.ensures.plan ∙ l.plan) told)
