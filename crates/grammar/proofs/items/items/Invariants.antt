use Rattle.std.proofs.Common.{◌≡◌, drop}
use Rattle.grammar.specs.Words.{each}
use Rattle.grammar.specs.Items.{item_of}
use Rattle.grammar.proofs.WordLoopLemmas.{with_front, texts}
use Rattle.grammar.proofs.items.items.Given as goal

abbrev pub invariant-loop-word : goal.invariant-loop-word
invariant-loop-word l = with_front l.items.items (each item_of (texts (drop l.word-index l.words))) ≡ each item_of (texts l.words)
