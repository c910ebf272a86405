use Rattle.std.proofs.Common.{◌≡◌, length}
use Rattle.machine.specs.Boards.Reads.{on_board}
use Rattle.shared_board.specs.Ports.{IsFrontOf}
use Rattle.shared_board.proofs.PortLemmas.{AreMatched}
use Rattle.shared_board.proofs.board.ports.frontiers_of.Given as goal

-- the board is as it was, and the frontiers of the ports so far are found
abbrev pub invariant-loop-site : goal.invariant-loop-site
invariant-loop-site g l = record {
  kept : l.board ≡ l.fn.board;
  len : length l.fronts.items ≡ l.site-index;
  found : AreMatched (IsFrontOf g.T.PartialOrder.times l.fn.board.dataflow (on_board l.fn.board)) l.ports l.fronts.items l.site-index;
}
