use Rattle.std.proofs.Common.{◌≡◌, ◌+◌, length}
use Rattle.std.specs.List.{flat_map}
use Rattle.plan.specs.Ancestors.{numbers_below}
use Rattle.machine.specs.Boards.Pieces.{pieces_at}
use Rattle.machine.proofs.board.Board.find.Given as goal

-- the board is as it was, and the number is past the pieces of the nodes so far, by what is left of
-- it
abbrev pub invariant-loop-n : goal.invariant-loop-n
invariant-loop-n g l =
    let times = g.T.PartialOrder.times in
    record {
      kept : l.self ≡ l.fn.self;
      past : l.number ≡ length (flat_map (pieces_at times l.fn.self l.worker) (numbers_below l.n)) + l.left;
    }
