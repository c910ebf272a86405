use Rattle.std.proofs.Common.{[]}
use Rattle.std.proofs.lemmas.Result.{err_from_is_err_and}
use Rattle.grammar.specs.Words.{each}
use Rattle.grammar.specs.Items.{item_of, item, items}
use Rattle.grammar.proofs.WordLoopLemmas.{texts, goes_on, ends, is_done}
use Rattle.grammar.proofs.items.items.Goals as goal

pub returns-in_err-item : goal.returns-in_err-item
unfolding item items
returns-in_err-item c =
    let p = err_from_is_err_and c.from_residual.result c.from_residual.ensures.1 in
    rw (p.1, p.2) (ends item_of c.args.words.now _ c.in_err-item.field-0.0 c.loop-word.items.items c.loop-word.word-index (each item_of (texts c.args.words.now)) c.loop-word-test.true c.in_err-item.ensures c.loop-word.invariant)

pub loop-word-preserved : goal.loop-word-preserved
unfolding item items
loop-word-preserved c =
    rw c.in_ok-push.ensures.items (goes_on item_of c.args.words.now _ c.loop-word.items.items c.loop-word.word-index c.in_ok-item.item (each item_of (texts c.args.words.now)) c.loop-word-test.true c.in_ok-item.ensures c.loop-word.invariant)

pub returns : goal.returns
unfolding item items
returns c = is_done item_of c.args.words.now (record { ref_ptr = (0, 0); now = [] }) c.loop-word.items.items c.loop-word.word-index (each item_of (texts c.args.words.now)) c.loop-word-test.false c.loop-word.invariant
