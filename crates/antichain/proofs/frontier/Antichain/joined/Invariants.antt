use Rattle.std.proofs.Common.{◌≡◌, ◌*◌, ◌≤◌, ◌||◌, ◌&&◌, length, drop}
use Rattle.lattice.specs.Frontiers.{is_beyond}
use Rattle.antichain.proofs.frontier.Antichain.joined.Given as goal

-- a time is beyond both antichains if it is beyond the result so far, or beyond the elements still
-- to come and beyond the other antichain
abbrev pub invariant-loop-f : goal.invariant-loop-f
invariant-loop-f g l =
    let times = g.T.PartialOrder.times in
    record {
      beyond : (t : g.row.T.Denot) → (is_beyond times l.both t || (is_beyond times (drop l.f-index l.f-items) t && is_beyond times l.other t)) ≡ (is_beyond times l.f-items t && is_beyond times l.other t);
      few : length l.both ≤ l.f-index * length l.other;
    }
