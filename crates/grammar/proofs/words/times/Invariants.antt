use Rattle.std.proofs.Common.{◌≡◌, ◌++◌, length}
use Rattle.grammar.specs.Words.{pairs_of}
use Rattle.grammar.proofs.words.times.Given as goal

abbrev pub decreases-loop-rest : goal.decreases-loop-rest
decreases-loop-rest l = length l.rest

abbrev pub invariant-loop-rest : goal.invariant-loop-rest
invariant-loop-rest l = l.times.items ++ pairs_of l.rest ≡ pairs_of l.numbers
