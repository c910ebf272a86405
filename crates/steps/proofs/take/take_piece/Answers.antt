use Rattle.std.proofs.Common.{rules, sym, subst}
use Rattle.lattice.proofs.BoundLemmas.{join_below}
use Rattle.histories.specs.declared.event.Event.TheVariants.{Look}
use Rattle.shared_board.specs.Pieces.{IsTakenIn}
use Rattle.shared_board.specs.Tenures.{IsNextTenure}
use Rattle.desk_laws.specs.declared.hand.Hand.TheVariants.{Free}
use Rattle.steps.specs.Workers.{IsRightOf}
use Rattle.steps.proofs.TakenLemmas.{taken_right}
use Rattle.steps.proofs.TenureLemmas.{looked_right}
use Rattle.steps.proofs.take.take_piece.Goals as goal

pub returns-in-Some-Ok-clause-right : goal.returns-in-Some-Ok-clause-right
returns-in-Some-Ok-clause-right g c d x =
    let times = g.T.PartialOrder.times in
    let bounds = g.met.T.Lattice.bounds in
    let order = g.met.T.PartialOrder.order in
    let old = c.args.actor.now in
    let new = c.try_take_piece-found.new.self in
    let taken : IsTakenIn times old new c.args.pick c.in-Some-Ok.piece = search rules in
    subst (IsRightOf times new d) (sym c.put_in.ensures.hand)
    (taken_right times order (join_below order bounds) bounds.join_left bounds.join_right old new c.known.ensures c.known-2.ensures d c.args.pick c.in-Some-Ok.piece taken x)

pub returns-in-Some-Err-clause-right : goal.returns-in-Some-Err-clause-right
returns-in-Some-Err-clause-right g c d x =
    let times = g.T.PartialOrder.times in
    let old = c.args.actor.now in
    let new = c.try_take_piece-found.new.self in
    let adds : IsNextTenure old (Look old.number) new = search rules in
    subst (IsRightOf times new d) (sym c.requires.free)
    (looked_right times g.met.T.PartialOrder.order old new c.known-2.ensures adds d Free x)
