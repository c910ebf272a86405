use Rattle.std.proofs.Common.{◌≡◌, ◌≤◌, ◌||◌, length, drop}
use Rattle.lattice.specs.Frontiers.{is_beyond}
use Rattle.antichain.specs.Antichains.{IsFrontier}
use Rattle.antichain.proofs.frontier.Antichain.least_of.Given as goal

-- a time is beyond the times given if and only if it is beyond the frontier so far or the times
-- still to come
abbrev pub invariant-loop-t : goal.invariant-loop-t
invariant-loop-t g l =
    let times = g.T.PartialOrder.times in
    record {
      beyond : (s : g.row.T.Denot) → (is_beyond times l.frontier s || is_beyond times (drop l.t-index l.times) s) ≡ is_beyond times l.times s;
      frontier : IsFrontier times g.T.Ord.cmp l.frontier;
      few : length l.frontier ≤ l.t-index;
    }
