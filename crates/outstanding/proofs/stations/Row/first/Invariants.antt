use Rattle.std.proofs.Common.{◌≡◌, ◌≤◌, map, replicate, vec_len, vec_capacity}
use Rattle.outstanding.specs.Loads.{no_lot}
use Rattle.outstanding.specs.Stations.{lot}
use Rattle.outstanding.proofs.stations.Row.first.Given as goal

-- nothing lies at the stations so far, and there is room for the others
abbrev pub invariant-loop-worker : goal.invariant-loop-worker
invariant-loop-worker g l = record {
  none : map lot l.by_worker.items ≡ replicate l._worker no_lot;
  made : vec_len l.by_worker ≡ l._worker;
  room : l.workers ≤ vec_capacity l.by_worker;
}
