use Rattle.std.proofs.Common.{◌∙◌, ap}
use Rattle.machine.specs.Boards.{BoardState}
use Rattle.machine.specs.Boards.Reads.{is_ready}
use Rattle.machine.proofs.BoardLemmas.FrontLemmas.{ready_stands}
use Rattle.machine.proofs.board.Board.is_ready.Goals as goal

pub returns-clause-value : goal.returns-clause-value
returns-clause-value g c =
    c.holds_passed.ensures.value ∙ ap (λ (z : BoardState g.row.T.Denot). is_ready g.T.PartialOrder.times z c.args.worker c.args.node) c.self.view_is

pub returns-clause-stands : goal.returns-clause-stands
returns-clause-stands g c h s = returns-clause-value g c ∙ ready_stands g.T.PartialOrder.times g.met.T.PartialOrder.order c.args.self.now c.known.ensures.board h s c.args.worker c.args.node
