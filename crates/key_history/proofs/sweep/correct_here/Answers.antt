use Rattle.std.proofs.Common.{◌++◌, ◌∙◌, length, inl, inr, ⊎_elim}
use Rattle.std.proofs.lemmas.Result.{IfOk-weaker, IfErr-weaker}
use Rattle.update.specs.Updates.{as_of}
use Rattle.correction.proofs.CorrectLemmas.{too_large}
use Rattle.correction.proofs.CorrectionLemmas.{too_large_alike}
use Rattle.correction.proofs.ResultLemmas.{passed_on}
use Rattle.key_history.proofs.sweep.correct_here.Goals as goal

pub returns-in_err-answer-clause-refused : goal.returns-in_err-answer-clause-refused
returns-in_err-answer-clause-refused g c =
    let key = c.args.key.now in
    let s = c.args.sweep.now in
    let refused = rw c.as_slice-near.ensures.value at c.in_err-answer.ensures.refused in
    passed_on c.from_residual.result c.in_err-answer.field-0.0 _ c.from_residual.ensures.1
    (⊎_elim inl (λ y. inr (
      y.0,
      λ content rows is same. too_large g.met.T.PartialOrder.order (length key) key c.args.time (g.R.Reducer.reduces c.args.reducer.now) content s.had.near.items rows is
          (too_large_alike (s.base ++ as_of g.T.PartialOrder.times c.args.time s.rows.near.items) (as_of g.T.PartialOrder.times c.args.time rows) same y.1),
    )) refused)

pub returns-clause-corrects : goal.returns-clause-corrects
returns-clause-corrects g c =
    let reduce = g.R.Reducer.reduces c.args.reducer.now in
    let value = rw c.as_slice-near.ensures.value at c.in_ok-answer.ensures.value in
    IfOk-weaker c.correct.result _ _
    (λ correction h content rows is same. (rw c.as_slice-had.ensures.value at h) reduce content rows is (λ entries a. value entries (λ r. same r ∙ a r)))
    c.correct.ensures.corrects

pub returns-clause-refused : goal.returns-clause-refused
returns-clause-refused g c =
    let reduce = g.R.Reducer.reduces c.args.reducer.now in
    let value = rw c.as_slice-near.ensures.value at c.in_ok-answer.ensures.value in
    IfErr-weaker c.correct.result _ _
    (λ refused h. ⊎_elim inl (λ y. inr (y.0, λ content rows is same. inr ((rw c.as_slice-had.ensures.value at y.1) reduce content rows is (λ entries a. value entries (λ r. same r ∙ a r))))) h)
    c.correct.ensures.refused
