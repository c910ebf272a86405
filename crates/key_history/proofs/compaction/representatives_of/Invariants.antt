use Rattle.std.proofs.Common.{◌≡◌, map, take}
use Rattle.lattice.specs.Representatives.{representative_of}
use Rattle.key_history.proofs.compaction.representatives_of.Given as goal

abbrev pub invariant-loop-time : goal.invariant-loop-time
invariant-loop-time g l = l.out.items ≡ map (representative_of g.T.PartialOrder.times l.since) (take l.time-index l.times)
