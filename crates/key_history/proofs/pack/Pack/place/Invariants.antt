use Rattle.std.proofs.Common.{◌≡◌, ◌≤◌, ◌-◌, length}
use Rattle.key_history.specs.Packs.{columns_before}
use Rattle.key_history.proofs.pack.Pack.place.Given as goal

-- the rows from `left` on are taken off
abbrev pub invariant-loop-left : goal.invariant-loop-left
invariant-loop-left g l = record {
  low : l.i ≤ l.left;
  within : l.left ≤ length l.self;
  place : l.place ≡ columns_before l.left l.self;
}

abbrev pub decreases-loop-left : goal.decreases-loop-left
decreases-loop-left g l = l.left - l.i
