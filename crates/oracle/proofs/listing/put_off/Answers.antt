use Rattle.std.proofs.Common.{◌≡◌, ◌∙◌, ◌∷◌, ◌++◌, [], sym, ap, to_z, of_z, w64, FitsSigned, rules}
use Rattle.std.specs.Prelude.{pos, ◌+ℤ◌}
use Rattle.std.proofs.lemmas.Int.{to_z-of_z}
use Rattle.update.specs.Bags.{entry_of}
use Rattle.oracle.proofs.ListingLemmas.{taken_off}
use Rattle.oracle.proofs.listing.put_off.Goals as goal

pub returns-clause-counts : goal.returns-clause-counts
returns-clause-counts g c =
    let old = c.args.entries.now in
    let mid = c.push.new.self in
    let fits : FitsSigned w64 c.before_opposite.result = search rules in
    let stored : to_z w64 (of_z w64 c.before_opposite.result) ≡ c.before_opposite.result = to_z-of_z w64 c.before_opposite.result fits in
    let own : FitsSigned w64 c.args.update.now.diff = search rules in
    let count : to_z w64 (of_z w64 c.args.update.now.diff) ≡ c.args.update.now.diff = to_z-of_z w64 c.args.update.now.diff own in
    taken_off old mid c.push-2.new.self c.args.update.now.row c.before_opposite.result c.args.update.now.diff
    (c.in_ok-push.ensures.added ∙ (λ j. old ++ entry_of (c.copy.ensures j) (stored j) ∷ []))
    (c.in_ok-push-2.ensures.added ∙ (λ j. mid ++ entry_of (c.copy-2.ensures j) (pos 1) ∷ []))
    (ap (λ n. (c.before_opposite.result +ℤ pos 1) +ℤ n) (sym count) ∙ c.before_opposite.ensures)
