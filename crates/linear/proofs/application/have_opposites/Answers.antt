use Rattle.std.proofs.Common.{◌≡◌, ap, sym, subst, refl, w64, FitsSigned, to_z, of_z, rules}
use Rattle.std.specs.Prelude.{neg_ℤ}
use Rattle.std.proofs.lemmas.Int.{to_z-of_z}
use Rattle.std.proofs.lemmas.List.Elements.{All-more}
use Rattle.update.specs.declared.change.Update.{Update}
use Rattle.linear.proofs.LoopLemmas.{large_here, none_large}
use Rattle.linear.proofs.application.have_opposites.Goals as goal

pub returns-in_default : goal.returns-in_default
returns-in_default g c =
    let u = c.update-item.result in
    let fits : FitsSigned w64 u.diff = search rules in
    let large : FitsSigned w64 (neg_ℤ (to_z w64 (of_z w64 u.diff))) → ⊥ = c.in_default.ensures in (
      (λ _. large_here c.args.updates.now c.loop-update.update-index u c.loop-update-test.true c.update-item.is (λ f. large (subst (λ z. FitsSigned w64 (neg_ℤ z)) (sym (to_z-of_z w64 u.diff fits)) f))),
      (λ _. refl),
    )

pub loop-update-preserved : goal.loop-update-preserved
loop-update-preserved g c =
    let u = c.update-item.result in
    let fits : FitsSigned w64 u.diff = search rules in
    let both : FitsSigned w64 (neg_ℤ (to_z w64 (of_z w64 u.diff))) × (c.in-Some._opposite ≡ neg_ℤ (to_z w64 (of_z w64 u.diff))) = c.in-Some.ensures in
    let can : FitsSigned w64 (neg_ℤ u.diff) = subst (λ z. FitsSigned w64 (neg_ℤ z)) (to_z-of_z w64 u.diff fits) both.0 in
    All-more (λ u. FitsSigned w64 (neg_ℤ u.diff)) c.args.updates.now c.loop-update.update-index u c.loop-update-test.true c.loop-update.invariant (subst (λ (v : Update g.row.T.Denot). FitsSigned w64 (neg_ℤ v.diff)) c.update-item.is can)

pub returns : goal.returns
returns g c = ((λ e. cc), (λ large. absurd (none_large c.args.updates.now c.loop-update.update-index c.loop-update-test.false c.loop-update.invariant large)))
