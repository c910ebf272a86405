use Rattle.std.proofs.Common.{◌≡◌, drop}
use Rattle.machine.specs.Boards.Reads.{hands_are_free}
use Rattle.machine.proofs.board.reads.are_free.Given as goal

abbrev pub invariant-loop-piece : goal.invariant-loop-piece
invariant-loop-piece l = hands_are_free (drop l.piece-index l.hand) ≡ hands_are_free l.hand
