use Rattle.histories.specs.Histories.States.{change_to}
use Rattle.shared_board.proofs.SharedLemmas.{accepted, looked}
use Rattle.shared_board.proofs.board.SharedBoard.feed.Goals as goal

pub returns-in_err-feed-clause-event : goal.returns-in_err-feed-clause-event
returns-in_err-feed-clause-event g c = looked g.T.PartialOrder.times g.T.Ord.cmp c.self.view_is c.feed.new.self c.args.client c.in_err-feed.ensures.unchanged c.feed.ensures.stands

pub returns-clause-event : goal.returns-clause-event
returns-clause-event g c = accepted g.T.PartialOrder.times g.T.Ord.cmp c.self.view_is c.feed.new.self c.args.client (change_to c.args.input c.args.update) c.counted_on-self-inside.result c.requires.actor c.in_ok-feed.ensures.fed c.counted_on-self-inside.ensures.one_more c.feed.ensures.stands
