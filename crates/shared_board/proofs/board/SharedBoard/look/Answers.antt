use Rattle.shared_board.proofs.SharedLemmas.{looked}
use Rattle.shared_board.proofs.board.SharedBoard.look.Goals as goal

pub returns-clause-event : goal.returns-clause-event
returns-clause-event g c = looked g.T.PartialOrder.times g.T.Ord.cmp c.self.view_is c.look.new.self c.args.actor c.look.ensures.looked c.look.ensures.stands
