use Rattle.std.proofs.Common.{inl, inr, ⊎_elim, ◌∙◌}
use Rattle.std.proofs.lemmas.Result.{err_from_is_err_and}
use Rattle.batch.proofs.merger.Merging.step.Goals as goal

pub returns-in_err-left-clause-refused : goal.returns-in_err-left-clause-refused
returns-in_err-left-clause-refused g c =
    let p = err_from_is_err_and c.from_residual.result c.from_residual.ensures.1 in
    rw p.1 (⊎_elim
    (λ d. inl (p.2 ∙ d))
    (λ r. inr (p.2 ∙ r.0, rw (c.columns_at-first.ensures, c.columns_at-second.ensures) at r.1))
    c.in_err-left.ensures.refused)
