use Rattle.std.proofs.Common.{length, nat_le, rules, ◌≡◌, true}
use Rattle.trials.proofs.PrefixLemmas.{taken_more}
use Rattle.join_trials.proofs.join_tests.are_short.Goals as goal

pub loop-i-preserved : goal.loop-i-preserved
loop-i-preserved g c =
    let short : c.is_short.result ≡ true = search rules in
    taken_more (λ u. nat_le (length u.row) 4) (g.B.BatchReader.content c.args.batch.now) c.loop-i.i c.is_short.result c.is_short.ensures short c.loop-i.invariant
