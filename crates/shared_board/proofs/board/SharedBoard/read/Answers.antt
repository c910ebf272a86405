use Rattle.std.specs.Prelude.{IfOk}
use Rattle.update.specs.Bags.{Alike}
use Rattle.plan.specs.Changes.{query_at}
use Rattle.histories.specs.Histories.Promises.{changes_in}
use Rattle.shared_board.proofs.SharedLemmas.{asked, of_history}
use Rattle.shared_board.proofs.SharedReadLemmas.{read_accepts, read_refuses}
use Rattle.shared_board.proofs.board.SharedBoard.read.Goals as goal

pub returns-clause-event : goal.returns-clause-event
returns-clause-event g c = asked g.T.PartialOrder.times g.T.Ord.cmp c.self.view_is c.read-found.new.self c.look.new.self c.args.client c.read-found.ensures.kept c.look.ensures.looked c.look.ensures.stands

pub returns-clause-accepted : goal.returns-clause-accepted
returns-clause-accepted g c = read_accepts g.T.PartialOrder.times g.T.Ord.cmp g.met.T.PartialOrder.order c.self.view_is c.known.ensures.board c.args.view c.requires.within c.args.t c.read-found.result c.read-found.ensures.accepted

pub returns-clause-refused : goal.returns-clause-refused
returns-clause-refused g c = read_refuses g.T.PartialOrder.times g.T.Ord.cmp g.met.T.PartialOrder.order c.self.view_is c.known.ensures.board c.args.view c.requires.within c.requires.view c.args.t c.read-found.result c.read-found.ensures.refused

pub returns-clause-query : goal.returns-clause-query
returns-clause-query g c = of_history g.T.PartialOrder.times g.T.Ord.cmp c.self.view_is (λ p w. IfOk c.read-found.result (λ bag. Alike bag (query_at g.T.PartialOrder.times p.nodes (changes_in w) c.args.view c.args.t))) c.read-found.ensures.query
