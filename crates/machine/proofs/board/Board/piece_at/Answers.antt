use Rattle.std.proofs.Common.{◌%◌, length, ap, ◌∙◌}
use Rattle.std.specs.Prelude.{slice_get}
use Rattle.machine.specs.Boards.Pieces.{IsPiece, MayTakeOn}
use Rattle.machine.proofs.BoardLemmas.PieceLemmas.{on_some, piece_allowed, pieces_stand, no_piece}
use Rattle.machine.proofs.board.Board.piece_at.Goals as goal

pub returns-clause-stands : goal.returns-clause-stands
returns-clause-stands g c h s =
    let times = g.T.PartialOrder.times in
    let b = c.args.self.now in
    on_some c.pick.result (IsPiece times b c.args.worker) (MayTakeOn times b h c.args.worker)
    (piece_allowed times g.met.T.PartialOrder.order b c.pick.ensures.board h s c.args.worker c.requires)
    c.pick.ensures.piece

pub returns-clause-idle : goal.returns-clause-idle
returns-clause-idle g c h s e =
    no_piece g.T.PartialOrder.times g.met.T.PartialOrder.order c.args.self.now c.pick.ensures.board h s c.args.worker (c.pick.ensures.none e)

pub returns-clause-numbered : goal.returns-clause-numbered
returns-clause-numbered g c h s =
    c.pick.ensures.value
    ∙ ap (λ all. slice_get all (c.args.pick % length all)) (pieces_stand g.T.PartialOrder.times g.met.T.PartialOrder.order c.args.self.now c.pick.ensures.board h s c.args.worker)
