use Rattle.std.proofs.Common.{◌≡◌, ◌*◌, [], length}
use Rattle.progress.specs.PlacedCounts.{IsPlaced, items_in}
use Rattle.progress.proofs.counts.Counts.new.Given as goal

-- the places of the nodes so far stand there, and nothing is counted at them
abbrev pub invariant-loop-number : goal.invariant-loop-number
invariant-loop-number g l = record {
  placed : IsPlaced l.places.items;
  len : length l.places.items ≡ l.number * 4;
  none : items_in l.places.items ≡ [];
}
