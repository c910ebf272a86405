use Rattle.std.proofs.Common.{◌≤◌, ◌++◌, ◌∷◌, [], FitsSigned, w64, sym, ap, ◌∙◌, arith, rules}
use Rattle.std.proofs.lemmas.Int.{to_z-of_z}
use Rattle.batch.proofs.CopyLemmas.{one_copied, same_update}
use Rattle.batch.proofs.copies.copy_run.Goals as goal

pub loop-i-preserved : goal.loop-i-preserved
loop-i-preserved g c =
    let us = g.B.BatchReader.content c.args.batch.now in
    let i = c.loop-i.i in
    let time = c.time.result in
    let row = c.copy.result in
    let diff = c.diff.result in
    let fits : FitsSigned w64 diff = search rules in
    let begun : c.args.part.start ≤ i = omega (arith, c.loop-i.auto.i) in
    one_copied c.args.list.now.items c.loop-i.list.items c.push.new.self.items us c.args.part.start i
    (record { time = time; row = row; diff = diff }) begun c.loop-i.invariant
    (c.in_ok-push.ensures.items ∙ ap (λ d. c.loop-i.list.items ++ record { time = time; row = row; diff = d } ∷ []) (to_z-of_z w64 diff fits))
    (same_update us i time row diff c.time.ensures c.diff.ensures
    (c.requires.alike i (record { time = time; row = row; diff = diff }) begun (omega (arith, c.loop-i-test.true)) ∙ sym c.copy.ensures))
