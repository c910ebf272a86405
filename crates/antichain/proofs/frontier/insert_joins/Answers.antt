use Rattle.std.proofs.Common.{◌≡◌, ◌+◌, ◌∷◌, ◌||◌, ◌&&◌, drop, arith}
use Rattle.std.proofs.lemmas.Grind.{common_steps}
use Rattle.lattice.specs.Frontiers.{is_beyond}
use Rattle.lattice.proofs.BoundLemmas.{join_below}
use Rattle.antichain.proofs.InsertionLemmas.{joins_step}
use Rattle.antichain.proofs.frontier.insert_joins.Goals as goal

pub loop-g-preserved : goal.loop-g-preserved
loop-g-preserved g c =
    let times = g.T.PartialOrder.times in
    let order = g.met.T.PartialOrder.order in
    let rest = drop (c.loop-g.g-index + 1) c.args.others.now in
    let left : drop c.loop-g.g-index c.args.others.now ≡ c.g-item.result ∷ rest = grind (arith, common_steps) in
    record {
      beyond = λ s.
          let all = is_beyond times c.args.both.now s || (times.below c.args.f s && is_beyond times c.args.others.now s) in
          let at_join : times.below c.join.result s ≡ (times.below c.args.f s && times.below c.g-item.result s) = rw c.join.ensures (join_below order g.met.T.Lattice.bounds c.args.f c.g-item.result s) in
          let so_far = rw left at (c.loop-g.invariant.beyond s) in
          joins_step order c.loop-g.both c.insert.new.self rest c.args.f c.g-item.result c.join.result s all at_join (c.in_ok-insert.ensures.beyond s) so_far;
      few = omega (arith, c.loop-g.invariant.few, c.in_ok-insert.ensures.len);
    }
