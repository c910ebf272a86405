use Rattle.std.proofs.Common.{subst}
use Rattle.std.specs.Prelude.{IfOk}
use Rattle.machine.specs.declared.board.pieces.Piece.{Piece}
use Rattle.machine.specs.Boards.Pieces.{IsPiece}
use Rattle.shared_board.specs.Pieces.{TellsMore}
use Rattle.shared_board.specs.Tenures.{WaitsOrNot}
use Rattle.shared_board.proofs.board.SharedBoard.take_picked.Goals as goal

pub returns-in-Waiting-clause-more : goal.returns-in-Waiting-clause-more
returns-in-Waiting-clause-more g c =
    let own = (subst (λ (x : Piece). IsPiece g.T.PartialOrder.times c.args.self.now.board c.args.worker x) c.in-Waiting.is c.requires.piece).worker in
    subst (λ k. IfOk c.take_at.result (TellsMore (λ more n. WaitsOrNot more n k c.take_at.new.self.board.stations))) own c.take_at.ensures.more
