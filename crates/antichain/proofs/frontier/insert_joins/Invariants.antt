use Rattle.std.proofs.Common.{◌≡◌, ◌+◌, ◌≤◌, ◌||◌, ◌&&◌, length, drop}
use Rattle.lattice.specs.Frontiers.{is_beyond}
use Rattle.antichain.proofs.frontier.insert_joins.Given as goal

-- a time is beyond the final antichain if it is beyond the one so far, or beyond f and one of the
-- times still to come
abbrev pub invariant-loop-g : goal.invariant-loop-g
invariant-loop-g g l =
    let times = g.T.PartialOrder.times in
    record {
      beyond : (t : g.row.T.Denot) → (is_beyond times l.both t || (times.below l.f t && is_beyond times (drop l.g-index l.others) t)) ≡ (is_beyond times l.initial.both t || (times.below l.f t && is_beyond times l.others t));
      few : length l.both ≤ length l.initial.both + l.g-index;
    }
