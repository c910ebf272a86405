use Rattle.std.proofs.Common.{◌≡◌, subst}
use Rattle.key_history.specs.Replays.{moved_to}
use Rattle.key_history.proofs.ReplayLemmas.{stands_moved}
use Rattle.key_history.proofs.replay.nearer.Goals as goal

pub returns-in-Ok-clause-stands : goal.returns-in-Ok-clause-stands
returns-in-Ok-clause-stands g c =
    let moved = subst (λ us. c.in_ok-list.list.items ≡ moved_to g.T.PartialOrder.times c.args.meet us) c.as_slice.ensures.value c.in_ok-list.ensures.moved in
    stands_moved g.met.T.PartialOrder.order g.met.T.Lattice.bounds c.args.meet c.args.updates.items c.in_ok-list.list.items c.in-Ok.near.items moved
    c.in-Ok.ensures.sums c.in-Ok.ensures.size c.in-Ok.ensures.among
