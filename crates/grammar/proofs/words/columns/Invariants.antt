use Rattle.std.proofs.Common.{◌≡◌, drop}
use Rattle.grammar.specs.Numbers.{signed_of}
use Rattle.grammar.specs.Words.{each}
use Rattle.grammar.proofs.WordLoopLemmas.{with_front, texts}
use Rattle.grammar.proofs.words.columns.Given as goal

abbrev pub invariant-loop-word : goal.invariant-loop-word
invariant-loop-word l = with_front l.columns.items (each signed_of (texts (drop l.word-index l.words))) ≡ each signed_of (texts l.words)
