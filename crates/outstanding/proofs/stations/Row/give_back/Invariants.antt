use Rattle.std.proofs.Common.{◌≡◌, ◌++◌, map, vec_len}
use Rattle.progress.specs.Several.{items_at}
use Rattle.progress.specs.Tallies.{SameCounts}
use Rattle.outstanding.specs.Loads.{held_by_all}
use Rattle.outstanding.specs.Stations.{lot}
use Rattle.outstanding.proofs.stations.Row.give_back.Given as goal

-- what the ended stations held is counted no more
abbrev pub invariant-loop-station : goal.invariant-loop-station
invariant-loop-station g l =
    SameCounts (items_at l.place (held_by_all (map lot l.fn.self)) ++ l.tally.items) (items_at l.place (held_by_all (map lot l.by_worker.items)) ++ l.fn.tally.items)
    × (l.tally.nodes ≡ l.fn.tally.nodes)

abbrev pub decreases-loop-station : goal.decreases-loop-station
decreases-loop-station g l = vec_len l.by_worker
