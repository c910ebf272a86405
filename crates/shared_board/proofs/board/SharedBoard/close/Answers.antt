use Rattle.shared_board.proofs.SharedLemmas.{closed}
use Rattle.shared_board.proofs.board.SharedBoard.close.Goals as goal

pub returns-clause-event : goal.returns-clause-event
returns-clause-event g c = closed g.T.PartialOrder.times g.T.Ord.cmp c.self.view_is c.close.new.self c.args.client c.args.input c.requires.actor c.close.ensures.closed c.close.ensures.stands
