use Rattle.std.proofs.Common.{◌++◌, inl, inr, ⊎_elim, ◌∙◌, subst}
use Rattle.std.proofs.lemmas.Result.{err_from_is_err_and}
use Rattle.update.specs.Updates.{HasLargeTotal}
use Rattle.batch.specs.Compaction.{compacted}
use Rattle.batch.specs.Descriptions.{DescriptionState}
use Rattle.batch.proofs.merger.Merging.read_all.Goals as goal

pub returns-in_err-take_next-clause-refused : goal.returns-in_err-take_next-clause-refused
returns-in_err-take_next-clause-refused g c =
    let p = err_from_is_err_and c.from_residual.result c.from_residual.ensures.1 in
    rw p.1 (⊎_elim
    (λ d. inl (p.2 ∙ d))
    (λ r. inr (p.2 ∙ r.0, subst (λ (x : DescriptionState g.row.T.Denot). HasLargeTotal g.T.PartialOrder.times (compacted g.T.PartialOrder.times x.since (c.args.us.now ++ c.args.vs.now))) c.loop-self.invariant.described r.1))
    c.in_err-take_next.ensures.refused)
