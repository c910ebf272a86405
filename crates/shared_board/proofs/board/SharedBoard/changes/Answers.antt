use Rattle.std.specs.Prelude.{IfOk}
use Rattle.plan.specs.Changes.{AreDifferences}
use Rattle.histories.specs.Histories.Outstanding.{frontier}
use Rattle.histories.specs.Histories.Promises.{changes_in}
use Rattle.shared_board.proofs.SharedLemmas.{asked, of_history}
use Rattle.shared_board.proofs.SharedReadLemmas.{changes_accepts, changes_refuses}
use Rattle.shared_board.proofs.board.SharedBoard.changes.Goals as goal

pub returns-clause-event : goal.returns-clause-event
returns-clause-event g c = asked g.T.PartialOrder.times g.T.Ord.cmp c.self.view_is c.changes-found.new.self c.look.new.self c.args.client c.changes-found.ensures.kept c.look.ensures.looked c.look.ensures.stands

pub returns-clause-accepted : goal.returns-clause-accepted
returns-clause-accepted g c = changes_accepts g.T.PartialOrder.times g.T.Ord.cmp g.met.T.PartialOrder.order c.self.view_is c.known.ensures.board c.args.view c.requires.within c.changes-found.result c.changes-found.ensures.accepted

pub returns-clause-refused : goal.returns-clause-refused
returns-clause-refused g c = changes_refuses g.T.PartialOrder.times g.T.Ord.cmp g.met.T.PartialOrder.order c.self.view_is c.known.ensures.board c.args.view c.requires.within c.requires.view c.changes-found.result c.changes-found.ensures.refused

pub returns-clause-differences : goal.returns-clause-differences
returns-clause-differences g c = of_history g.T.PartialOrder.times g.T.Ord.cmp c.self.view_is (λ p w. IfOk c.changes-found.result (λ us. AreDifferences g.T.PartialOrder.times g.T.Ord.cmp p.nodes (changes_in w) (frontier g.T.PartialOrder.times p w c.args.view) c.args.view us.items)) c.changes-found.ensures.differences
