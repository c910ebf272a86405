use Rattle.std.proofs.Common.{rules, ◌≡◌, true}
use Rattle.join.specs.declared.side.Side.TheVariants.{Right}
use Rattle.join_trials.proofs.ReadyLemmas.{ready_taken}
use Rattle.join_trials.proofs.join_tests.take_right.Goals as goal

pub take_right-requires-clause-takeable : goal.take_right-requires-clause-takeable
take_right-requires-clause-takeable g c =
    let ok : c.are_ready.result ≡ true = search rules in
    let short : c.all_short.result ≡ true = search rules in
    ready_taken g.T.PartialOrder.times (g.L.Trace.held c.args.left.now) c.args.state.now.key Right
    (g.R.Batch.BatchReader.content c.args.batch.now) (g.L.Trace.content c.args.left.now)
    (rw (c.since.ensures.value, c.key.ensures.value) at (rw ok at c.are_ready.ensures))
    (rw c.all_batches.ensures.content at (rw short at c.all_short.ensures))
