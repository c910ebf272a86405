use Rattle.std.proofs.Common.{length, inr, refl}
use Rattle.correction.proofs.ResultLemmas.{passed_on}
use Rattle.correction.proofs.CorrectLemmas.{corrects, wanted_there, too_far}
use Rattle.correction.proofs.corrections.correct.Goals as goal

pub returns-in_err-given-clause-refused : goal.returns-in_err-given-clause-refused
returns-in_err-given-clause-refused g c =
    let key = c.args.key.now in
    let k = length key in
    let given = c.args.given.now in
    passed_on c.from_residual-in_err-given.result c.in_err-given.field-0.0 _ c.from_residual-in_err-given.ensures.1
    (inr (
      c.in_err-given.ensures.only,
      λ reduce content rows is answer.
          too_far g.met.T.PartialOrder.order k key c.args.evaluation.time reduce content given rows c.args.evaluation.answer c.requires.given c.in_ok-draft.draft.items c.in_ok-draft.ensures.draft
          is answer c.requires.keyed (c.in_err-given.ensures.overflow.0 refl),
    ))

pub returns-clause-corrects : goal.returns-clause-corrects
returns-clause-corrects g c reduce content rows is answer =
    let key = c.args.key.now in
    let k = length key in
    let given = c.args.given.now in
    corrects g.met.T.PartialOrder.order k key c.args.evaluation.time reduce content given rows c.args.evaluation.answer c.requires.given c.in_ok-draft.draft.items c.in_ok-draft.ensures.draft
    g.met.T.Ord.total c.in_ok-given.given.items c.in_ok-given.ensures.consolidated c.in_ok-given.ensures.among c.in_ok-given.ensures.sums
    is answer c.requires.keyed

pub returns-clause-evaluation : goal.returns-clause-evaluation
returns-clause-evaluation g c =
    let key = c.args.key.now in
    let k = length key in
    let given = c.args.given.now in
    wanted_there g.met.T.PartialOrder.order k key c.args.evaluation.time (λ _ entries. entries) given given given c.args.evaluation.answer c.requires.given c.in_ok-draft.draft.items c.in_ok-draft.ensures.draft
    g.met.T.Ord.total c.in_ok-given.given.items c.in_ok-given.ensures.consolidated c.in_ok-given.ensures.among c.in_ok-given.ensures.sums
