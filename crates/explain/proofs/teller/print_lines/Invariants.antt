use Rattle.std.proofs.Common.{◌+◌, ◌≤◌, length}
use Rattle.explain.specs.Explanations.{WroteSome}
use Rattle.explain.proofs.teller.print_lines.Given as goal

abbrev pub decreases-loop-rest : goal.decreases-loop-rest
decreases-loop-rest g l = length l.rest

-- what is told of the lines so far is written
abbrev pub invariant-loop-rest : goal.invariant-loop-rest
invariant-loop-rest g l = record {
  numbered : l.number + length l.rest ≤ length l.bytes + 1;
  wrote : WroteSome g.W.Out.took l.fn.out l.fn.buffer l.out l.buffer;
}
