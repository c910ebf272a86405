use Rattle.std.proofs.Common.{length, nat_le, rules, ◌≡◌, ◌&&◌, true}
use Rattle.lattice.specs.Frontiers.{is_beyond}
use Rattle.join.specs.Pairs.{is_wide}
use Rattle.trials.proofs.PrefixLemmas.{taken_more}
use Rattle.join_trials.proofs.join_tests.are_ready.Goals as goal

pub loop-i-preserved : goal.loop-i-preserved
loop-i-preserved g c =
    let ready : c.is_ready.result ≡ true = search rules in
    taken_more (λ u. is_beyond g.B.Time.PartialOrder.times c.args.since.now u.time && (is_wide c.args.k u.row && nat_le (length u.row) 4)) (g.B.BatchReader.content c.args.batch.now) c.loop-i.i c.is_ready.result c.is_ready.ensures ready c.loop-i.invariant
