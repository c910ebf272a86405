use Rattle.std.proofs.Common.{◌≡◌, drop}
use Rattle.lattice.specs.Frontiers.{is_beyond}
use Rattle.progress.specs.PlacedCounts.{items_in}
use Rattle.progress.specs.Scopes.{is_in_scope}
use Rattle.progress.specs.Tallies.{times_where}
use Rattle.progress.proofs.counts.is_any_placed.Given as goal

-- the time is beyond those of the places still to come if it is beyond any
abbrev pub invariant-loop-counts : goal.invariant-loop-counts
invariant-loop-counts g l =
    let times = g.T.PartialOrder.times in
    is_beyond times (times_where (is_in_scope l.graph l.scope) (items_in (drop l.counts-index l.places))) l.t ≡ is_beyond times (times_where (is_in_scope l.graph l.scope) (items_in l.places)) l.t
