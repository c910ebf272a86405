use Rattle.std.proofs.Common.{◌≡◌, take}
use Rattle.lattice.specs.Representatives.{representative_of}
use Rattle.key_history.specs.Compaction.{retimed}
use Rattle.key_history.specs.Packs.{columns_before}
use Rattle.key_history.proofs.compaction.moved_as_of.Given as goal

abbrev pub invariant-loop-i : goal.invariant-loop-i
invariant-loop-i g l = record {
  moved : l.out.items ≡ retimed (representative_of g.T.PartialOrder.times l.since) (take l.i l.updates);
  place : l.place ≡ columns_before l.i l.updates;
}
