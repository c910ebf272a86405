use Rattle.std.specs.Prelude.{IfOk}
use Rattle.shared_board.specs.Ports.{AreFrontsOf}
use Rattle.shared_board.proofs.ActorLemmas.{if_ok_map}
use Rattle.shared_board.proofs.PortLemmas.{fronts_stand}
use Rattle.shared_board.proofs.SharedLemmas.{asked, in_view}
use Rattle.shared_board.proofs.board.SharedBoard.port_frontiers.Goals as goal

pub returns-clause-event : goal.returns-clause-event
returns-clause-event g c = asked g.T.PartialOrder.times g.T.Ord.cmp c.self.view_is c.frontiers_of-found.new.board c.look.new.self c.args.actor c.frontiers_of-found.ensures.kept c.look.ensures.looked c.look.ensures.stands

pub returns-clause-found : goal.returns-clause-found
returns-clause-found g c =
    in_view g.T.PartialOrder.times g.T.Ord.cmp c.self.view_is (λ p w. IfOk c.frontiers_of-found.result (λ fronts. AreFrontsOf g.T.PartialOrder.times p w c.args.ports.now fronts.items))
    (λ es a. if_ok_map c.frontiers_of-found.result _ _ (λ fronts. fronts_stand g.T.PartialOrder.times g.T.Ord.cmp g.met.T.PartialOrder.order _ c.known.ensures.board es a c.args.ports.now fronts.items) c.frontiers_of-found.ensures.found)
