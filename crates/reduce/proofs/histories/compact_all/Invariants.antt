use Rattle.key_history.specs.Compaction.{IsFolded}
use Rattle.reduce.specs.Compacted.{AreCompacted}
use Rattle.reduce.proofs.CompactLemmas.{AreFoldedTo}
use Rattle.reduce.proofs.histories.compact_all.Given as goal

-- the first i are folded
abbrev pub invariant-loop-i : goal.invariant-loop-i
invariant-loop-i g l =
    record {
      moved : AreCompacted g.T.PartialOrder.times g.T.Ord.cmp l.since l.fn.histories.items l.histories.items;
      folded : AreFoldedTo (IsFolded g.T.PartialOrder.times l.since g.T.Ord.cmp) l.i l.fn.histories.items l.histories.items;
    }
