use Rattle.std.proofs.Common.{◌≡◌, ◌+◌, ◌-◌, length}
use Rattle.batch.specs.Merges.{IsUnderway}
use Rattle.batch.proofs.merger.Merging.read_all.Given as goal

abbrev pub invariant-loop-self : goal.invariant-loop-self
invariant-loop-self g l = record {
  underway : IsUnderway g.T.PartialOrder.times g.T.Ord.cmp l.us l.vs l.self;
  described : l.self.description ≡ l.fn.self.description;
}

-- the number of updates that are still to be read decreases
abbrev pub decreases-loop-self : goal.decreases-loop-self
decreases-loop-self g l = (length l.us + length l.vs) - (l.self.left + l.self.right)
