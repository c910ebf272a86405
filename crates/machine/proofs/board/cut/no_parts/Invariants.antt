use Rattle.std.proofs.Common.{◌≡◌, replicate, []}
use Rattle.machine.proofs.board.cut.no_parts.Given as goal

abbrev pub invariant-loop-worker : goal.invariant-loop-worker
invariant-loop-worker g l = l.parts.items ≡ replicate l._worker []
