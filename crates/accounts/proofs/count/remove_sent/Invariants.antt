use Rattle.std.proofs.Common.{◌≡◌, ◌++◌, take}
use Rattle.progress.specs.Tallies.{SameCounts}
use Rattle.outstanding.specs.Stations.{lots}
use Rattle.accounts.specs.Accounts.{items_sent}
use Rattle.accounts.proofs.count.remove_sent.Given as goal

-- the stamps so far and what is counted are together what was counted
abbrev pub invariant-loop-bundle : goal.invariant-loop-bundle
invariant-loop-bundle g l = SameCounts (items_sent (lots l.stations) (take l.bundle-index l.sent) ++ l.tally.items) l.fn.tally.items × (l.tally.nodes ≡ l.fn.tally.nodes)
