use Rattle.machine.proofs.BoardLemmas.AcceptLemmas.{board_taken}
use Rattle.machine.proofs.board.Board.try_take.Goals as goal

pub invariant_of-self : goal.invariant_of-self
invariant_of-self g c = board_taken _ c.self.invariant c.take.result c.take.new.self c.args.number c.take.ensures.taken c.take.ensures.unchanged
