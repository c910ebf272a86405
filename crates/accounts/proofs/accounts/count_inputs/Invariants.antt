use Rattle.std.proofs.Common.{◌≡◌}
use Rattle.progress.specs.Tallies.{SameCounts}
use Rattle.accounts.specs.Accounts.{items_left}
use Rattle.accounts.proofs.accounts.count_inputs.Given as goal

-- the frontiers of the inputs so far are counted
abbrev pub invariant-loop-n : goal.invariant-loop-n
invariant-loop-n g l = SameCounts l.tally.items (items_left l.n l.inputs) × (l.tally.nodes ≡ l.fn.tally.nodes)
