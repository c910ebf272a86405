use Rattle.std.proofs.Common.{◌≡◌}
use Rattle.reducer.specs.Tallies.{undone}
use Rattle.reducer.proofs.tally.Tally.undo_all.Given as goal

-- what is left to set back leads to the same entries
abbrev pub invariant-loop-last : goal.invariant-loop-last
invariant-loop-last l = undone l.noted.items l.self ≡ undone l.initial.noted.items l.initial.self

abbrev pub decreases-loop-last : goal.decreases-loop-last
decreases-loop-last l = goal.left-loop-last l
