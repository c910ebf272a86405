use Rattle.std.proofs.Common.{◌≡◌, ℕ, ◌<◌, slice_get, Some}
use Rattle.batch.specs.Descriptions.{BatchState}
use Rattle.operator.proofs.arrangement.boundary.end_after.Given as goal

-- no batch so far goes on from the boundary
abbrev pub invariant-loop-batch : goal.invariant-loop-batch
invariant-loop-batch g l = (k : ℕ) (b : BatchState g.row.T.Denot) → k < l.batch-index → slice_get l.batches k ≡ Some b → b.description.lower ≡ l.boundary → b.description.upper ≡ l.boundary
