use Rattle.std.proofs.Common.{◌≡◌, drop}
use Rattle.grammar.specs.Words.{each}
use Rattle.grammar.specs.Numbers.{whole_of}
use Rattle.grammar.proofs.WordLoopLemmas.{with_front, texts}
use Rattle.grammar.proofs.words.wholes.Given as goal

abbrev pub invariant-loop-word : goal.invariant-loop-word
invariant-loop-word l = with_front l.numbers.items (each whole_of (texts (drop l.word-index l.words))) ≡ each whole_of (texts l.words)
