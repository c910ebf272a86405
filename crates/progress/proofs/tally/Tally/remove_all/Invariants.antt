use Rattle.std.proofs.Common.{◌≡◌, ◌++◌, take}
use Rattle.progress.specs.Tallies.{AreMarksBelow, SameCounts}
use Rattle.progress.specs.Several.{items_at}
use Rattle.progress.proofs.tally.Tally.remove_all.Given as goal

-- what was removed so far and what is counted are together what was counted
abbrev pub invariant-loop-number : goal.invariant-loop-number
invariant-loop-number g l =
    SameCounts (items_at l.place (take l.number l.times) ++ l.self.items) l.fn.self.items × (l.self.nodes ≡ l.fn.self.nodes) × (l.self.rebuilt ≡ l.fn.self.rebuilt) × AreMarksBelow l.fn.self.nodes l.place l.fn.self.marked l.self.marked
