use Rattle.std.proofs.Common.{◌≤◌, ◌+◌, length}
use Rattle.importer.proofs.schema_lines.take_lines.Given as goal

abbrev pub invariant-loop-rest : goal.invariant-loop-rest
invariant-loop-rest l = record {
  first : 1 ≤ l.line;
  left : l.line + length l.rest ≤ length l.bytes + 1;
}

abbrev pub decreases-loop-rest : goal.decreases-loop-rest
decreases-loop-rest l = length l.rest
