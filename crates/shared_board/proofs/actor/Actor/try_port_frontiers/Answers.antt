use Rattle.std.proofs.Common.{rules, ◌∙◌}
use Rattle.std.specs.Arc.{arc_value}
use Rattle.hub.specs.Passes.{hub_id}
use Rattle.std.specs.Prelude.{IfOk}
use Rattle.shared_board.specs.Ports.{AreFrontsOf, AreWithin}
use Rattle.shared_board.proofs.ActorLemmas.{IsIn, after_one, kept, looked, of_found, on_board, one_leaves}
use Rattle.shared_board.proofs.CallLemmas.{entered}
use Rattle.shared_board.proofs.actor.Actor.try_port_frontiers.Given.{Over}
use Rattle.shared_board.proofs.actor.Actor.try_port_frontiers.Goals.{After-deref_mut}
use Rattle.shared_board.proofs.actor.Actor.try_port_frontiers.Goals as goal

-- the call is made in a tenure
tenure : (g : Over) (c : After-deref_mut g) → IsIn g.T.PartialOrder.times g.T.Ord.cmp (hub_id (arc_value c.self.inside.hub)) c.self.inside.number c.args.self.now c.in-Ok.home c.deref_mut.result.now
tenure g c =
    entered g.T.PartialOrder.times g.T.Ord.cmp c.self.inside.pass _ c.args.self.now _ _ _ c.self.invariant c.self.view_is c.in-Ok.home c.in-Ok.ensures.found c.deref_mut.result.now c.in-Ok.home.state.value (g.met.P.BoardProtocol.stands_for c.in-Ok.home.state c.in-Ok.home.found c.in-Ok.ensures.stands) (search rules)

pub port_frontiers-fronts-requires : goal.port_frontiers-fronts-requires
port_frontiers-fronts-requires g c =
    (search rules, on_board (tenure g (goal.at.port_frontiers-fronts-requires g c).After-deref_mut) (λ x n. AreWithin x.dataflow c.args.ports.now) c.requires.within)

pub leave-requires : goal.leave-requires
leave-requires g c =
    g.met.P.BoardProtocol.may_stand _ _ (one_leaves (tenure g (goal.at.leave-requires g c).After-deref_mut) c.port_frontiers-fronts.ensures.event _ (g.met.P.BoardProtocol.last_is _))

pub invariant_of-self : goal.invariant_of-self
invariant_of-self g c =
    let a = after_one (tenure g (goal.at.invariant_of-self g c).After-deref_mut) c.port_frontiers-fronts.ensures.event _ (g.met.P.BoardProtocol.last_is _) c.leave.result c.leave.ensures in
    kept a _ (c.accepted-self-inside.ensures ∙ search rules)

pub returns-in-Ok-clause-looked : goal.returns-in-Ok-clause-looked
returns-in-Ok-clause-looked g c =
    let a = after_one (tenure g (goal.at.returns-in-Ok-clause-looked g c).After-deref_mut) c.port_frontiers-fronts.ensures.event _ (g.met.P.BoardProtocol.last_is _) c.leave.result c.leave.ensures in
    looked a c.port_frontiers-fronts.ensures.looked

pub returns-in-Ok-clause-found : goal.returns-in-Ok-clause-found
returns-in-Ok-clause-found g c =
    let t = tenure g (goal.at.returns-in-Ok-clause-found g c).After-deref_mut in
    let a = after_one t c.port_frontiers-fronts.ensures.event _ (g.met.P.BoardProtocol.last_is _) c.leave.result c.leave.ensures in
    of_found t (λ p w. IfOk c.port_frontiers-fronts.result (λ fronts. AreFrontsOf g.T.PartialOrder.times p w c.args.ports.now fronts.items)) c.port_frontiers-fronts.ensures.found c.leave.result a
