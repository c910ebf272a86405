use Rattle.std.proofs.Common.{◌++◌, ◌∙◌, length, inl, inr, ⊎_elim}
use Rattle.update.specs.Updates.{as_of}
use Rattle.correction.proofs.CorrectionLemmas.{large_sum_alike}
use Rattle.correction.proofs.ResultLemmas.{passed_on}
use Rattle.correction.proofs.TalliedLemmas.{whole_keyed}
use Rattle.correction.proofs.tallied.answer_by_bag.Goals as goal

pub returns-in_err-rows-clause-refused : goal.returns-in_err-rows-clause-refused
returns-in_err-rows-clause-refused g c =
    passed_on c.from_residual.result c.in_err-rows.field-0.0 _ c.from_residual.ensures.1
    (⊎_elim inl (λ h. inr (h.0, inl h.1)) c.in_err-rows.ensures.refused)

pub reduce-requires-clause-keyed : goal.reduce-requires-clause-keyed
reduce-requires-clause-keyed g c =
    whole_keyed g.T.PartialOrder.times (length c.args.key.now) c.args.key.now c.args.time c.args.base.now c.args.near.now c.in_ok-rows.rows
    c.in_ok-rows.ensures.bag c.in_ok-rows.ensures.sum c.requires.keyed c.requires.near

pub returns-clause-answer : goal.returns-clause-answer
returns-clause-answer g c =
    let key = c.args.key.now in
    let rows = c.in_ok-rows.rows in
    let made = c.in_ok-answer.ensures in
    record {
      value = λ entries same row.
          made.value row ∙ (g.met.R.Reducer.laws c.args.reducer.now (length key)).alike key rows entries (λ r. c.in_ok-rows.ensures.sum r ∙ same r) row;
      bag = made.bag;
      keyed = made.keyed;
    }

pub returns-in_err-answer-clause-refused : goal.returns-in_err-answer-clause-refused
returns-in_err-answer-clause-refused g c =
    passed_on c.from_residual-in_err-answer.result c.in_err-answer.field-0.0 _ c.from_residual-in_err-answer.ensures.1
    (⊎_elim inl (λ h. inr (h.0, inr (large_sum_alike c.in_ok-rows.rows (c.args.base.now ++ as_of g.T.PartialOrder.times c.args.time c.args.near.now) c.in_ok-rows.ensures.sum h.1))) c.in_err-answer.ensures.refused)
