use Rattle.std.proofs.Common.{◌≡◌, ◌++◌, vec_len}
use Rattle.progress.specs.Tallies.{SameCounts}
use Rattle.histories.specs.Histories.Outstanding.{items_held}
use Rattle.outstanding.specs.Loads.{all_held}
use Rattle.outstanding.specs.Stations.{lots}
use Rattle.outstanding.proofs.stations.Stations.give_back.Given as goal

-- what the ended rows held is counted no more
abbrev pub invariant-loop-row : goal.invariant-loop-row
invariant-loop-row g l =
    SameCounts (items_held (all_held (lots l.fn.self)) ++ l.tally.items) (items_held (all_held (lots l.by_node.items)) ++ l.fn.tally.items)
    × (l.tally.nodes ≡ l.fn.tally.nodes)

abbrev pub decreases-loop-row : goal.decreases-loop-row
decreases-loop-row g l = vec_len l.by_node
