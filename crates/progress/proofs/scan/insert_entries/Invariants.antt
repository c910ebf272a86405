use Rattle.std.proofs.Common.{◌≡◌, ◌||◌, drop}
use Rattle.lattice.specs.Frontiers.{is_beyond}
use Rattle.progress.specs.CountLists.{listed}
use Rattle.progress.proofs.scan.insert_entries.Given as goal

-- a time is beyond the frontier so far and the entries still to come if it is beyond all
abbrev pub invariant-loop-entry : goal.invariant-loop-entry
invariant-loop-entry g l =
    let times = g.T.PartialOrder.times in
    (s : g.row.T.Denot) → (is_beyond times l.found.items s || is_beyond times (listed (drop l.entry-index l.few)) s) ≡ (is_beyond times l.fn.found.items s || is_beyond times (listed l.few) s)
