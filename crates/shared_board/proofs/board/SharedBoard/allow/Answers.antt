use Rattle.shared_board.proofs.SharedLemmas.{allowed}
use Rattle.shared_board.proofs.board.SharedBoard.allow.Goals as goal

pub returns-clause-event : goal.returns-clause-event
returns-clause-event g c = allowed g.T.PartialOrder.times g.T.Ord.cmp c.self.view_is c.allow.new.self c.args.client c.args.view c.args.times.now c.allow.result c.requires.actor c.allow.ensures.allowed c.allow.ensures.unchanged c.allow.ensures.stands
