use Rattle.std.proofs.Common.{◌≡◌, replicate, None}
use Rattle.machine.proofs.board.empty_hands.Given as goal

abbrev pub invariant-loop-worker : goal.invariant-loop-worker
invariant-loop-worker l = l.hand.items ≡ replicate l._worker None
