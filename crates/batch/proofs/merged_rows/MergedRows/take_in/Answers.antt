use Rattle.std.proofs.Common.{◌≡◌, sym, ◌∙◌, subst, FitsSigned, w64, rules}
use Rattle.std.proofs.lemmas.Int.{to_z-of_z}
use Rattle.update.specs.declared.change.Update.{Update}
use Rattle.batch.specs.Merges.{IsMerging}
use Rattle.batch.proofs.HandLemmas.{said_of, rows_in_hand, more_in_hand}
use Rattle.batch.proofs.MergeLemmas.{merging_taken}
use Rattle.batch.proofs.merged_rows.MergedRows.take_in.Goals as goal

pub returns-clause-kept : goal.returns-clause-kept
returns-clause-kept g c next e us vs xs ys m n =
    let ready = c.make_ready.new.self in
    let made = c.in_ok-make_ready.ensures.kept next e us vs xs ys m n in
    let time = said_of (λ (u : Update g.row.T.Denot). c.time.result ≡ u.time) c.args.source.now c.args.place next e c.time.ensures in
    let diff = said_of (λ (u : Update g.row.T.Denot). c.diff.result ≡ u.diff) c.args.source.now c.args.place next e c.diff.ensures in
    let fits : FitsSigned w64 c.diff.result = search rules in
    let more = more_in_hand g.T.PartialOrder.times g.T.Ord.cmp c.args.since.now ready.row ready.in_hand.items _ next c.time.result _ made.0 time (to_z-of_z w64 c.diff.result fits ∙ diff) c.in_ok-put_in_hand.ensures.written in
    subst (λ ws. IsMerging g.T.PartialOrder.times g.T.Ord.cmp c.args.since.now us vs ready.finished ws xs ys) (sym more)
    (merging_taken g.T.PartialOrder.times g.T.Ord.cmp c.args.since.now us vs ready.finished _ xs ys next made.1 n (rows_in_hand ready.row next.row ready.in_hand.items made.0))
