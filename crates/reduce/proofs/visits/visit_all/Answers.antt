use Rattle.std.proofs.Common.{◌++◌, [], ◌∷◌, get_or, inl, inr, ⊎_elim, arith}
use Rattle.std.specs.Prelude.{sum_by}
use Rattle.trace.specs.Readings.{all_content}
use Rattle.reduce.specs.Visits.{reads_of}
use Rattle.joined_times.proofs.MemberLemmas.{member_at}
use Rattle.correction.proofs.ResultLemmas.{passed_on}
use Rattle.reduce.proofs.VisitLemmas.{item_is, gathers_none, gathers_more, reads_more}
use Rattle.reduce.proofs.visits.visit_all.Goals as goal

pub loop-place-init : goal.loop-place-init
loop-place-init g c =
    let looked = c.none-gathered.ensures.looked in (
      [],
      0,
      rw (c.none-gathered.ensures.out, c.none-gathered.ensures.changes, c.none-gathered.ensures.waiting)
          (gathers_none g.T.PartialOrder.times c.args.frontier.now (g.R.Reducer.reduces c.args.reducer.now) (all_content g.B.BatchReader.content c.args.batches.now) c.args.histories.now.items),
      omega (arith, looked),
      omega (arith, looked),
    )

pub visit-requires-clause-waits : goal.visit-requires-clause-waits
visit-requires-clause-waits g c =
    c.requires.waits (get_or c.args.places.now c.loop-place.place-index 0) (member_at c.args.places.now c.loop-place.place-index (get_or c.args.places.now c.loop-place.place-index 0) c.loop-place-test.true (item_is c.args.places.now c.loop-place.place-index 0 c.loop-place-test.true))

pub returns-in_err-visit-clause-refused : goal.returns-in_err-visit-clause-refused
returns-in_err-visit-clause-refused g c =
    passed_on c.from_residual.result c.in_err-visit.field-0.0 _ c.from_residual.ensures.1
    (⊎_elim inl (λ y. inr (y.0, ((get_or c.args.places.now c.loop-place.place-index 0), y.1))) c.in_err-visit.ensures.refused)

pub loop-place-preserved : goal.loop-place-preserved
loop-place-preserved g c =
    let content = all_content g.B.BatchReader.content c.args.batches.now in
    let v = c.in_ok-visit.ensures.visited in
    let old = c.loop-place.invariant in
    let times = g.T.PartialOrder.times in
    let more = reads_more times c.args.frontier.now content old.0 v.0 in
    let read = old.2.reads_are in
    let a = old.3 in
    let b = old.4 in
    let d = v.6 in
    let e = v.7 in (
      old.0 ++ v.0 ∷ [],
      sum_by (reads_of times c.args.frontier.now content) (old.0 ++ v.0 ∷ []),
      gathers_more times c.args.frontier.now (g.R.Reducer.reduces c.args.reducer.now) content c.args.histories.now.items c.args.places.now c.loop-place.place-index (get_or c.args.places.now c.loop-place.place-index 0) c.loop-place-test.true (item_is c.args.places.now c.loop-place.place-index 0 c.loop-place-test.true)
          old.0 v.0 c.loop-place.gathered.out c.visit.new.gathered.out c.loop-place.gathered.changes.items c.visit.new.gathered.changes.items c.loop-place.gathered.waiting.items c.visit.new.gathered.waiting.items old.1
          old.2 v.1 v.2 v.3 v.4 v.5,
      omega (arith, more, read, a, b, d, e),
      omega (arith, more, read, a, b, d, e),
    )
