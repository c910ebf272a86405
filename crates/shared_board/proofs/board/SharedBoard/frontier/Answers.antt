use Rattle.std.specs.Prelude.{IfOk}
use Rattle.antichain.specs.Antichains.{SameElements}
use Rattle.histories.specs.Histories.Outstanding.{frontier}
use Rattle.shared_board.proofs.SharedLemmas.{asked, of_history}
use Rattle.shared_board.proofs.board.SharedBoard.frontier.Goals as goal

pub returns-clause-event : goal.returns-clause-event
returns-clause-event g c = asked g.T.PartialOrder.times g.T.Ord.cmp c.self.view_is c.frontier-found.new.self c.look.new.self c.args.client c.frontier-found.ensures.kept c.look.ensures.looked c.look.ensures.stands

pub returns-clause-frontier : goal.returns-clause-frontier
returns-clause-frontier g c = of_history g.T.PartialOrder.times g.T.Ord.cmp c.self.view_is (λ p w. IfOk c.frontier-found.result (λ found. SameElements found (frontier g.T.PartialOrder.times p w c.args.view))) c.frontier-found.ensures.stands
