use Rattle.shared_board.proofs.SharedLemmas.{advanced}
use Rattle.shared_board.proofs.board.SharedBoard.advance.Goals as goal

pub returns-clause-event : goal.returns-clause-event
returns-clause-event g c = advanced g.T.PartialOrder.times g.T.Ord.cmp c.self.view_is c.advance.new.self c.args.client c.args.input c.args.times.now c.advance.result c.requires.actor c.advance.ensures.advanced c.advance.ensures.unchanged c.advance.ensures.stands
