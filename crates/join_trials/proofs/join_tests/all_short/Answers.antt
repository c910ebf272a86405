use Rattle.std.proofs.Common.{length, nat_le, rules, IsTrue}
use Rattle.std.specs.List.{list_all}
use Rattle.join.proofs.FormedLemmas.{item_at}
use Rattle.join_trials.proofs.ReadyLemmas.{taken_batch}
use Rattle.join_trials.proofs.join_tests.all_short.Goals as goal

pub loop-batch-preserved : goal.loop-batch-preserved
loop-batch-preserved g c =
    let here = item_at c.args.batches.now c.loop-batch.batch-index c.batch-item.result c.loop-batch-test.true c.batch-item.is in
    let short : IsTrue (list_all (λ u. nat_le (length u.row) 4) (g.B.BatchReader.content c.batch-item.result)) = search rules in
    taken_batch g.B.BatchReader.content (λ u. nat_le (length u.row) 4) c.args.batches.now c.loop-batch.batch-index c.batch-item.result here short c.loop-batch.invariant
