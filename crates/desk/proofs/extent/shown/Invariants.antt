use Rattle.std.proofs.Common.{◌≡◌, ◌-◌, ◌^◌, length, min, take}
use Rattle.trace.specs.BatchLists.{updates_of}
use Rattle.trace.specs.Readings.{all_content}
use Rattle.desk.proofs.extent.shown.Given as goal

-- the updates of the batches so far were counted
abbrev pub invariant-loop-batch : goal.invariant-loop-batch
invariant-loop-batch g l = l.shown ≡ min (length (all_content updates_of (take l.batch-index l.batches))) (2 ^ 64 - 1)
