use Rattle.std.proofs.Common.{sym, subst}
use Rattle.operator.specs.Arrangements.{IsFrontOf}
use Rattle.operator.proofs.FrontLemmas.{front_renewed}
use Rattle.operator.proofs.arrangement.pending.Waiting.take_in.Goals as goal

pub invariant_of-self-2 : goal.invariant_of-self-2
invariant_of-self-2 g c =
    let times = g.T.PartialOrder.times in
    let front = c.in_ok-front in
    subst (IsFrontOf times c.renew.new.front.items) (sym c.in_ok-move_behind.ensures.ok)
    (front_renewed times (λ v. v.items) front.front c.self.inside.front.items c.renew.new.front.items c.self.inside.updates.items c.args.updates.now.items c.self.invariant
    (rw (c.as_slice.ensures.value, c.as_slice-2.ensures.value) at front.ensures.more) (rw (c.as_slice.ensures.value, c.as_slice-2.ensures.value) at front.ensures.none) c.renew.ensures.more c.renew.ensures.none)
