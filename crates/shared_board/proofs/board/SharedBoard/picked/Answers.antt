use Rattle.std.proofs.Common.{◌≡◌, None}
use Rattle.machine.specs.Boards.Pieces.{HasNoPiece}
use Rattle.shared_board.specs.Pieces.{piece_of}
use Rattle.shared_board.proofs.SharedLemmas.{of_history}
use Rattle.shared_board.proofs.board.SharedBoard.picked.Goals as goal

pub returns-clause-numbered : goal.returns-clause-numbered
returns-clause-numbered g c = of_history g.T.PartialOrder.times g.T.Ord.cmp c.self.view_is (λ p w. c.piece_at.result ≡ piece_of g.T.PartialOrder.times p w c.args.worker c.args.pick) c.piece_at.ensures.numbered

pub returns-clause-idle : goal.returns-clause-idle
returns-clause-idle g c = of_history g.T.PartialOrder.times g.T.Ord.cmp c.self.view_is (λ p w. c.piece_at.result ≡ None → HasNoPiece g.T.PartialOrder.times p w c.args.worker) c.piece_at.ensures.idle
