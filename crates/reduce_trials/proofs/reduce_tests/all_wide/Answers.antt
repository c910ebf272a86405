use Rattle.std.proofs.Common.{length, nat_le, rules, ◌≡◌, true}
use Rattle.trials.proofs.PrefixLemmas.{taken_more}
use Rattle.reduce_trials.proofs.reduce_tests.all_wide.Goals as goal

pub loop-i-preserved : goal.loop-i-preserved
loop-i-preserved g c =
    let wide : c.is_wide.result ≡ true = search rules in
    taken_more (λ u. nat_le c.args.key (length u.row)) (g.B.BatchReader.content c.args.batch.now) c.loop-i.i c.is_wide.result c.is_wide.ensures wide c.loop-i.invariant
