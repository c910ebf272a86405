use Rattle.std.proofs.Common.{◌≡◌, ◌+◌, ◌≤◌, length}
use Rattle.grammar.specs.Text.{lines_of}
use Rattle.grammar.specs.ParseStates.{parse_state}
use Rattle.grammar.specs.Scripts.{lines_from, script_of}
use Rattle.grammar.proofs.RunLemmas.{Taken}
use Rattle.grammar.proofs.parser.take_lines.Given as goal

abbrev pub decreases-loop-rest : goal.decreases-loop-rest
decreases-loop-rest l = length l.rest

abbrev pub invariant-loop-rest : goal.invariant-loop-rest
invariant-loop-rest l = record {
  so_far : lines_from l.number (parse_state l.draft) (lines_of l.rest) ≡ script_of l.bytes;
  numbered : l.number + length l.rest ≤ length l.bytes + 1;
  taken : Taken (lines_of l.bytes) l.number (parse_state l.draft) (lines_of l.rest);
}
