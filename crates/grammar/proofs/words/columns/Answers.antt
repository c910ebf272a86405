use Rattle.std.proofs.Common.{[], ◌∷◌, ◌++◌, ◌≡◌, rules}
use Rattle.std.proofs.lemmas.Result.{err_from_is_err_and}
use Rattle.grammar.specs.Numbers.{signed_of}
use Rattle.grammar.specs.Words.{each, signed, columns}
use Rattle.grammar.proofs.WordLoopLemmas.{texts, goes_on, ends, is_done}
use Rattle.grammar.proofs.words.columns.Goals as goal

pub returns-in_err-column : goal.returns-in_err-column
unfolding signed columns
returns-in_err-column c =
    let p = err_from_is_err_and c.from_residual.result c.from_residual.ensures.1 in
    rw (p.1, p.2) (ends signed_of c.args.words.now _ c.in_err-column.field-0.0 c.loop-word.columns.items c.loop-word.word-index (each signed_of (texts c.args.words.now)) c.loop-word-test.true c.in_err-column.ensures c.loop-word.invariant)

pub loop-word-preserved : goal.loop-word-preserved
unfolding signed columns
loop-word-preserved c =
    let more : c.push_column.new.columns.items ≡ c.loop-word.columns.items ++ c.in_ok-column.column ∷ [] = search rules in
    rw more (goes_on signed_of c.args.words.now _ c.loop-word.columns.items c.loop-word.word-index c.in_ok-column.column (each signed_of (texts c.args.words.now)) c.loop-word-test.true c.in_ok-column.ensures c.loop-word.invariant)

pub returns : goal.returns
unfolding signed columns
returns c = is_done signed_of c.args.words.now (record { ref_ptr = (0, 0); now = [] }) c.loop-word.columns.items c.loop-word.word-index (each signed_of (texts c.args.words.now)) c.loop-word-test.false c.loop-word.invariant
