use Rattle.std.proofs.Common.{◌<◌, ◌∙◌, ◌∷◌, ◌++◌, [], length, sym, arith}
use Rattle.plan.specs.Reductions.{single}
use Rattle.reducer.proofs.DistinctLemmas.{no_entry, put_positive, pass_over}
use Rattle.reducer.proofs.distinct.put_positive.Goals as goal

pub loop-i-preserved : goal.loop-i-preserved
loop-i-preserved g c =
    let rows = g.C.RowCounts.entries c.args.rows.now in
    let i = c.loop-i.i in
    let old = c.args.entries.now in
    let mid = c.loop-i.entries in
    let inside : i < length rows = omega arith in
    let here = c.is_positive_at.ensures no_entry in
    elim c.if-is_positive_at.branch [
      | goal.then-is_positive_at+in_ok-push w ↦
          rw w.entries-is (put_positive old mid w.push.new.self rows i no_entry inside (sym here ∙ w.if-is_positive_at.true) c.loop-i.invariant
          (w.in_ok-push.ensures.added ∙ (λ j. mid ++ single (w.row_at.ensures no_entry j) ∷ [])))
      | goal.else-is_positive_at w ↦ rw w.entries-is (pass_over old mid rows i no_entry inside (sym here ∙ w.if-is_positive_at.false) c.loop-i.invariant)
    ]
