use Rattle.std.proofs.Common.{◌≡◌, ◌∙◌, slice_index_or, slice_set, ap, sym, subst, refl, w64, FitsSigned, to_z, of_z, rules}
use Rattle.std.specs.Prelude.{neg_ℤ}
use Rattle.std.proofs.lemmas.Int.{to_z-of_z}
use Rattle.std.proofs.lemmas.List.Edits.{map_over_more}
use Rattle.std.proofs.lemmas.List.Elements.{All-more}
use Rattle.update.specs.declared.change.Update.{Update}
use Rattle.linear.specs.Applied.{negated_update}
use Rattle.linear.proofs.LoopLemmas.{unread, read_itself, large_here, none_large}
use Rattle.linear.proofs.application.negate_diffs.Goals as goal

pub returns-in_default-clause-large : goal.returns-in_default-clause-large
returns-in_default-clause-large g c =
    let xs = c.args.updates.now in
    let ys = c.loop-update.updates in
    let i = c.loop-update.update-index in
    let u = slice_index_or ys i c.update-item.result in
    let fits : FitsSigned w64 u.diff = search rules in
    let large : FitsSigned w64 (neg_ℤ (to_z w64 (of_z w64 u.diff))) → ⊥ = c.in_default.ensures in
    let here = read_itself ys i c.update-item.result c.update-item.is ∙ unread negated_update xs ys i u c.loop-update-test.true c.loop-update.invariant.negated in
    ((λ _. large_here xs i u c.loop-update-test.true here (λ f. large (subst (λ z. FitsSigned w64 (neg_ℤ z)) (sym (to_z-of_z w64 u.diff fits)) f))), (λ _. refl))

pub loop-update-preserved : goal.loop-update-preserved
loop-update-preserved g c =
    let xs = c.args.updates.now in
    let ys = c.loop-update.updates in
    let i = c.loop-update.update-index in
    let u = slice_index_or ys i c.update-item.result in
    let fits : FitsSigned w64 u.diff = search rules in
    let itself = read_itself ys i c.update-item.result c.update-item.is in
    let here = itself ∙ unread negated_update xs ys i u c.loop-update-test.true c.loop-update.invariant.negated in
    let back = to_z-of_z w64 u.diff fits in
    let both : FitsSigned w64 (neg_ℤ (to_z w64 (of_z w64 u.diff))) × (c.in-Some.diff ≡ neg_ℤ (to_z w64 (of_z w64 u.diff))) = c.in-Some.ensures in
    let can : FitsSigned w64 (neg_ℤ u.diff) = subst (λ z. FitsSigned w64 (neg_ℤ z)) back both.0 in
    let diff : c.in-Some.diff ≡ neg_ℤ u.diff = both.1 ∙ ap neg_ℤ back in
    let stored : to_z w64 (of_z w64 c.in-Some.diff) ≡ neg_ℤ u.diff = to_z-of_z w64 c.in-Some.diff (subst (FitsSigned w64) (sym diff) can) ∙ diff in
    record {
      negated = (λ j. slice_set ys i (record u { diff = stored j }))
          ∙ map_over_more negated_update xs ys i u c.loop-update-test.true c.loop-update.invariant.negated itself;
      fits = All-more (λ u. FitsSigned w64 (neg_ℤ u.diff)) xs i u c.loop-update-test.true c.loop-update.invariant.fits (subst (λ (v : Update g.row.T.Denot). FitsSigned w64 (neg_ℤ v.diff)) here can);
    }

pub returns-clause-large : goal.returns-clause-large
returns-clause-large g c =
    ((λ e. cc), (λ large. absurd (none_large c.args.updates.now c.loop-update.update-index c.loop-update-test.false c.loop-update.invariant.fits large)))
