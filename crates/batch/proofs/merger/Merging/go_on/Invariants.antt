use Rattle.std.proofs.Common.{◌≡◌, ◌+◌, ◌≤◌}
use Rattle.batch.specs.Merges.{IsUnderway}
use Rattle.batch.proofs.merger.Merging.go_on.Given as goal

abbrev pub invariant-loop-left : goal.invariant-loop-left
invariant-loop-left g l = record {
  underway : IsUnderway g.T.PartialOrder.times g.T.Ord.cmp l.us l.vs l.self;
  described : l.self.description ≡ l.fn.self.description;
  spent : (l.self.left + l.self.right) + l.left ≡ (l.fn.self.left + l.fn.self.right) + l.fuel;
  less : l.left ≤ l.fuel;
}

-- the fuel that is left decreases
abbrev pub decreases-loop-left : goal.decreases-loop-left
decreases-loop-left g l = l.left
