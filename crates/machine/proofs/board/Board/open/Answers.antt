use Rattle.machine.proofs.BoardLemmas.BoardLemmas.{stands_opened}
use Rattle.machine.proofs.board.Board.open.Goals as goal

pub returns-clause-stands : goal.returns-clause-stands
returns-clause-stands g c = stands_opened g.T.PartialOrder.times _ c.first.result c.first.ensures.first
