use Rattle.std.proofs.Common.{◌≡◌, ◌||◌, drop}
use Rattle.lattice.specs.Frontiers.{is_beyond}
use Rattle.progress.proofs.scan.insert_all.Given as goal

-- a time is beyond the frontier so far and the times still to come if it is beyond all
abbrev pub invariant-loop-t : goal.invariant-loop-t
invariant-loop-t g l =
    let times = g.T.PartialOrder.times in
    (s : g.row.T.Denot) → (is_beyond times l.found.items s || is_beyond times (drop l.t-index l.times) s) ≡ (is_beyond times l.fn.found.items s || is_beyond times l.times s)
