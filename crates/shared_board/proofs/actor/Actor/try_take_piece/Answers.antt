use Rattle.std.proofs.Common.{rules, ◌<◌, ◌∙◌}
use Rattle.std.specs.Arc.{arc_value}
use Rattle.hub.specs.Passes.{hub_id}
use Rattle.shared_board.proofs.ActorLemmas.{IsIn, after_one, both_ok, hand_found, if_err_map, kept, looked, on_board, one_leaves}
use Rattle.shared_board.proofs.CallLemmas.{entered}
use Rattle.shared_board.proofs.TakenLemmas.{taken_in}
use Rattle.shared_board.proofs.actor.Actor.try_take_piece.Given.{Over}
use Rattle.shared_board.proofs.actor.Actor.try_take_piece.Goals.{After-deref_mut}
use Rattle.shared_board.proofs.actor.Actor.try_take_piece.Goals as goal

-- the call is made in a tenure
tenure : (g : Over) (c : After-deref_mut g) → IsIn g.T.PartialOrder.times g.T.Ord.cmp (hub_id (arc_value c.self.inside.hub)) c.self.inside.number c.args.self.now c.in-Ok.home c.deref_mut.result.now
tenure g c =
    entered g.T.PartialOrder.times g.T.Ord.cmp c.self.inside.pass _ c.args.self.now _ _ _ c.self.invariant c.self.view_is c.in-Ok.home c.in-Ok.ensures.found c.deref_mut.result.now c.in-Ok.home.state.value (g.met.P.BoardProtocol.stands_for c.in-Ok.home.state c.in-Ok.home.found c.in-Ok.ensures.stands) (search rules)

pub take_piece-answer-requires : goal.take_piece-answer-requires
take_piece-answer-requires g c =
    let t = tenure g (goal.at.take_piece-answer-requires g c).After-deref_mut in
    let worker = on_board t (λ x n. n < x.dataflow.workers) c.requires.worker in
    record { worker = worker; free = hand_found t worker c.requires.free }

pub leave-requires : goal.leave-requires
leave-requires g c =
    g.met.P.BoardProtocol.may_stand _ _ (one_leaves (tenure g (goal.at.leave-requires g c).After-deref_mut) c.take_piece-answer.ensures.event _ (g.met.P.BoardProtocol.last_is _))

pub invariant_of-self : goal.invariant_of-self
invariant_of-self g c =
    let a = after_one (tenure g (goal.at.invariant_of-self g c).After-deref_mut) c.take_piece-answer.ensures.event _ (g.met.P.BoardProtocol.last_is _) c.leave.result c.leave.ensures in
    kept a _ (c.accepted-self-inside.ensures ∙ search rules)

pub returns-in-Ok-clause-taken : goal.returns-in-Ok-clause-taken
returns-in-Ok-clause-taken g c =
    both_ok c.take_piece-answer.result _ _ _
    (λ taken x more. taken_in (tenure g (goal.at.returns-in-Ok-clause-taken g c).After-deref_mut) c.take_piece-answer.ensures.event _ (g.met.P.BoardProtocol.last_is _) c.leave.result c.leave.ensures c.args.pick taken x more)
    c.take_piece-answer.ensures.taken c.take_piece-answer.ensures.more

pub returns-in-Ok-clause-refused : goal.returns-in-Ok-clause-refused
returns-in-Ok-clause-refused g c =
    let a = after_one (tenure g (goal.at.returns-in-Ok-clause-refused g c).After-deref_mut) c.take_piece-answer.ensures.event _ (g.met.P.BoardProtocol.last_is _) c.leave.result c.leave.ensures in
    if_err_map c.take_piece-answer.result _ _ (λ refusal x. (x.0, looked a x.1)) c.take_piece-answer.ensures.refused
