use Rattle.shared_board.proofs.SharedLemmas.{gave}
use Rattle.shared_board.proofs.board.SharedBoard.give.Goals as goal

pub returns-clause-stands : goal.returns-clause-stands
returns-clause-stands g c = gave g.T.PartialOrder.times g.T.Ord.cmp c.self.view_is c.give.new.self c.args.cut.given c.args.held c.args.cut.sent c.give.result c.requires.wide c.give.ensures.given c.give.ensures.unchanged c.give.ensures.stands
