use Rattle.std.proofs.Common.{◌∙◌, ◌++◌, ◌∷◌, [], rules, FitsSigned, w64}
use Rattle.std.proofs.lemmas.Int.{to_z-of_z}
use Rattle.update.specs.Bags.{entry_of}
use Rattle.correction.proofs.TalliedLemmas.{entry_more}
use Rattle.correction.proofs.tallied.push_tally.Goals as goal

pub loop-i-preserved : goal.loop-i-preserved
loop-i-preserved c =
    let mid = c.loop-i.entries in
    let n = c.count.result in
    let fits : FitsSigned w64 n = search rules in
    entry_more c.args.entries.now mid c.push.new.self c.args.base.now c.loop-i.i c.row.result.now n c.row.ensures c.count.ensures c.loop-i.invariant
    (c.in_ok-push.ensures.added ∙ (λ j. mid ++ entry_of (c.copy.ensures j) (to_z-of_z w64 n fits j) ∷ []))
