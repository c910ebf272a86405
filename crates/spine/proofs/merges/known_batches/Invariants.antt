use Rattle.std.proofs.Common.{take, IsTrue}
use Rattle.std.specs.List.{AllByRecursion}
use Rattle.batch.specs.Batches.{IsSealed}
use Rattle.batch.specs.Compaction.{are_compacted}
use Rattle.spine.proofs.merges.known_batches.Given as goal

-- each of those so far is
abbrev pub invariant-loop-batch : goal.invariant-loop-batch
invariant-loop-batch g l = AllByRecursion (λ b. IsSealed g.T.Ord.cmp b.updates × IsTrue (are_compacted g.T.PartialOrder.times b.description.since b.updates)) (take l.batch-index l.batches)
