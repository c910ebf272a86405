use Rattle.std.proofs.Common.{◌≡◌, ◌<◌, ◌∙◌, ◌∷◌, ◌++◌, [], length, slice_index_or, ap, sym, subst, inr, refl, to_z, of_z, w64, FitsSigned, rules, arith}
use Rattle.std.specs.Prelude.{neg_ℤ}
use Rattle.std.proofs.lemmas.Int.{to_z-of_z}
use Rattle.plan.specs.Operators.{negated_entry}
use Rattle.update.specs.Bags.{entry_of}
use Rattle.oracle.proofs.PutLemmas.{no_entry, put_more, large_at}
use Rattle.oracle.proofs.linear.put_opposites.Goals as goal

pub returns-in_default-clause-refused : goal.returns-in_default-clause-refused
returns-in_default-clause-refused c =
    let inside : c.loop-i.i < length c.args.bag.now = omega arith in
    let fits : FitsSigned w64 c.count_at.result = search rules in
    let large : FitsSigned w64 (neg_ℤ (to_z w64 (of_z w64 c.count_at.result))) → ⊥ = c.in_default.ensures in
    let same : to_z w64 (of_z w64 c.count_at.result) ≡ (slice_index_or c.args.bag.now c.loop-i.i no_entry).count = to_z-of_z w64 c.count_at.result fits ∙ c.count_at.ensures no_entry in
    inr (refl, large_at c.args.bag.now c.loop-i.i inside (λ f. large (subst (λ z. FitsSigned w64 (neg_ℤ z)) (sym same) f)))

pub loop-i-preserved : goal.loop-i-preserved
loop-i-preserved c =
    let e = slice_index_or c.args.bag.now c.loop-i.i no_entry in
    let inside : c.loop-i.i < length c.args.bag.now = omega arith in
    let fits : FitsSigned w64 c.count_at.result = search rules in
    let same : to_z w64 (of_z w64 c.count_at.result) ≡ e.count = to_z-of_z w64 c.count_at.result fits ∙ c.count_at.ensures no_entry in
    let both : FitsSigned w64 (neg_ℤ (to_z w64 (of_z w64 c.count_at.result))) × (c.in-Some.count ≡ neg_ℤ (to_z w64 (of_z w64 c.count_at.result))) = c.in-Some.ensures in
    let stored : to_z w64 (of_z w64 c.in-Some.count) ≡ c.in-Some.count = to_z-of_z w64 c.in-Some.count (subst (FitsSigned w64) (sym both.1) both.0) in
    let count : to_z w64 (of_z w64 c.in-Some.count) ≡ neg_ℤ e.count = stored ∙ (both.1 ∙ ap neg_ℤ same) in
    let row : c.copy.result ≡ e.row = c.copy.ensures ∙ c.row_at.ensures no_entry in
    let mid = c.loop-i.entries in
    put_more negated_entry c.args.entries.now mid c.push.new.self c.args.bag.now c.loop-i.i no_entry inside
    c.loop-i.invariant (c.in_ok-push.ensures.added ∙ (λ j. mid ++ entry_of (row j) (count j) ∷ []))
