use Rattle.std.proofs.Common.{◌≡◌, get_or, ⊎_elim, refl, sym, ◌∙◌, ap, arith, Some}
use Rattle.std.specs.List.{slice_get}
use Rattle.batch.specs.Descriptions.{BatchState}
use Rattle.std.proofs.lemmas.Bool.{cases_lt}
use Rattle.std.proofs.lemmas.Option.{slice_get_read}
use Rattle.trace.proofs.BoundaryLemmas.{some_same}
use Rattle.operator.proofs.arrangement.boundary.end_after.Goals as goal

pub loop-batch-preserved : goal.loop-batch-preserved
loop-batch-preserved g c k b l at lower =
    ⊎_elim (λ less. c.loop-batch.invariant k b less at lower)
    (λ equal.
    let bs = c.args.batches.now in
    let i = c.loop-batch.batch-index in
    let d = c.batch-item.result in
    let here : k ≡ i = omega (arith, l, equal) in
    let found : slice_get bs k ≡ Some d = slice_get_read bs _ k d refl (omega (arith, here, c.loop-batch-test.true)) (c.batch-item.is ∙ sym (ap (λ j. get_or bs j d) here)) in
    let is : d ≡ b = some_same (sym found ∙ at) in
    sym (ap (λ (x : BatchState g.row.T.Denot). x.description.upper) is)
    ∙ c.goes_on_from.ensures.stays c.if-goes_on_from.false (ap (λ (x : BatchState g.row.T.Denot). x.description.lower) is ∙ lower))
    (cases_lt k c.loop-batch.batch-index)
