use Rattle.std.proofs.Common.{◌≡◌, ◌++◌, take}
use Rattle.progress.specs.Tallies.{SameCounts}
use Rattle.progress.specs.Several.{items_at}
use Rattle.progress.proofs.tally.Tally.add_all.Given as goal

-- the times so far are counted beside what was
abbrev pub invariant-loop-number : goal.invariant-loop-number
invariant-loop-number g l =
    SameCounts l.self.items (items_at l.place (take l.number l.times) ++ l.fn.self.items) × (l.self.nodes ≡ l.fn.self.nodes) × (l.self.rebuilt ≡ l.fn.self.rebuilt) × (l.self.marked ≡ l.fn.self.marked)
