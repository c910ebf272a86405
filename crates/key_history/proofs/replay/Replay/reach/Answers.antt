use Rattle.key_history.proofs.ReplayLemmas.{all_came_in}
use Rattle.key_history.proofs.replay.Replay.reach.Goals as goal

pub returns-clause-reached : goal.returns-clause-reached
returns-clause-reached g c =
    let p = c.loop-time.self in
    all_came_in g.met.T.PartialOrder.order g.met.T.Lattice.extends g.met.T.Ord.total c.args.time p.near.items p.later.items p.entered
    (rw c.loop-time.invariant.1 c.requires) (c.is_next.ensures.none c.loop-time-test.false)
