use Rattle.std.proofs.Common.{[]}
use Rattle.std.proofs.lemmas.Result.{err_from_is_err_and}
use Rattle.grammar.specs.Words.{each, whole, wholes}
use Rattle.grammar.specs.Numbers.{whole_of}
use Rattle.grammar.proofs.WordLoopLemmas.{texts, goes_on, ends, is_done}
use Rattle.grammar.proofs.words.wholes.Goals as goal

pub returns-in_err-number : goal.returns-in_err-number
unfolding whole wholes
returns-in_err-number c =
    let p = err_from_is_err_and c.from_residual.result c.from_residual.ensures.1 in
    rw (p.1, p.2) (ends whole_of c.args.words.now _ c.in_err-number.field-0.0 c.loop-word.numbers.items c.loop-word.word-index (each whole_of (texts c.args.words.now)) c.loop-word-test.true c.in_err-number.ensures c.loop-word.invariant)

pub loop-word-preserved : goal.loop-word-preserved
unfolding whole wholes
loop-word-preserved c =
    rw c.in_ok-push.ensures.items (goes_on whole_of c.args.words.now _ c.loop-word.numbers.items c.loop-word.word-index c.in_ok-number.number (each whole_of (texts c.args.words.now)) c.loop-word-test.true c.in_ok-number.ensures c.loop-word.invariant)

pub returns : goal.returns
unfolding whole wholes
returns c = is_done whole_of c.args.words.now (record { ref_ptr = (0, 0); now = [] }) c.loop-word.numbers.items c.loop-word.word-index (each whole_of (texts c.args.words.now)) c.loop-word-test.false c.loop-word.invariant
