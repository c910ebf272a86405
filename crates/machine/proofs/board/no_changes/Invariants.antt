use Rattle.std.proofs.Common.{◌≡◌, replicate}
use Rattle.machine.proofs.board.no_changes.Given as goal

abbrev pub invariant-loop-node : goal.invariant-loop-node
invariant-loop-node l = l.accepted.items ≡ replicate l._node 0
