use Rattle.std.proofs.Common.{◌++◌, ◌∙◌, length, take, inl, inr, ⊎_elim}
use Rattle.update.specs.Bags.{same_row}
use Rattle.update.specs.Updates.{as_of}
use Rattle.correction.proofs.CorrectionLemmas.{large_sum_alike}
use Rattle.correction.proofs.ResultLemmas.{passed_on}
use Rattle.correction.proofs.tallied.answer_by_tally.Goals as goal

pub reduce-requires-clause-keyed : goal.reduce-requires-clause-keyed
reduce-requires-clause-keyed g c =
    let key = c.args.key.now in
    c.add_near.ensures.among (λ row. same_row (take (length key) row) key) c.requires.keyed

pub returns-clause-answer : goal.returns-clause-answer
returns-clause-answer g c =
    let key = c.args.key.now in
    let added = c.in_ok-add_near.ensures.added c.if-not-branch.false in
    let made = c.in_ok-answer.ensures in
    record {
      value = λ entries same row.
          made.value row ∙ (g.met.R.Reducer.laws c.args.reducer.now (length key)).alike key c.add_near.new.base entries (λ r. added r ∙ same r) row;
      bag = made.bag;
      keyed = made.keyed;
    }

pub returns-in_err-answer-clause-refused : goal.returns-in_err-answer-clause-refused
returns-in_err-answer-clause-refused g c =
    let added = c.in_ok-add_near.ensures.added c.if-not-branch.false in
    passed_on c.from_residual-in_err-answer.result c.in_err-answer.field-0.0 _ c.from_residual-in_err-answer.ensures.1
    (⊎_elim inl (λ h. inr (h.0, large_sum_alike c.add_near.new.base (c.args.base.now ++ as_of g.T.PartialOrder.times c.args.time c.args.near.now) added h.1)) c.in_err-answer.ensures.refused)
