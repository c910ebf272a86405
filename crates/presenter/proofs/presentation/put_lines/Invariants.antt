use Rattle.std.proofs.Common.{◌≤◌, ◌+◌, length}
use Rattle.presenter.proofs.presentation.put_lines.Given as goal

abbrev pub invariant-loop-rest : goal.invariant-loop-rest
invariant-loop-rest g l = record {
  first : 1 ≤ l.line;
  left : l.line + length l.rest ≤ length l.text + 1;
}

abbrev pub decreases-loop-rest : goal.decreases-loop-rest
decreases-loop-rest g l = length l.rest
