use Rattle.std.proofs.Common.{◌≡◌, ◌||◌, drop}
use Rattle.lattice.specs.Frontiers.{is_beyond}
use Rattle.batch.specs.Intervals.{open_updates}
use Rattle.operator.specs.Arrangements.{times_of}
use Rattle.operator.proofs.frontier.front_of_open.Given as goal

-- a time is beyond the front so far or an open update that is still to come, or else it is beyond
-- none of them
abbrev pub invariant-loop-update : goal.invariant-loop-update
invariant-loop-update g l =
    let times = g.T.PartialOrder.times in
    (t : g.row.T.Denot) → (is_beyond times l.front.items t || is_beyond times (times_of (open_updates times l.upper (drop l.update-index l.updates))) t) ≡ is_beyond times (times_of (open_updates times l.upper l.updates)) t
