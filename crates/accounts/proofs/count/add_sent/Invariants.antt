use Rattle.std.proofs.Common.{◌≡◌, ◌++◌, take}
use Rattle.progress.specs.Tallies.{SameCounts}
use Rattle.outstanding.specs.Stations.{lots}
use Rattle.accounts.specs.Accounts.{items_sent}
use Rattle.accounts.proofs.count.add_sent.Given as goal

-- the stamps of the bundles so far are counted beside what was
abbrev pub invariant-loop-number : goal.invariant-loop-number
invariant-loop-number g l = SameCounts l.tally.items (items_sent (lots l.stations) (take l.number l.sent) ++ l.fn.tally.items) × (l.tally.nodes ≡ l.fn.tally.nodes)
