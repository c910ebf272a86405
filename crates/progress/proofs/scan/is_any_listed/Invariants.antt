use Rattle.std.proofs.Common.{◌≡◌}
use Rattle.lattice.specs.Frontiers.{is_beyond}
use Rattle.progress.specs.CountLists.{listed}
use Rattle.progress.proofs.scan.is_any_listed.Given as goal

-- the time is beyond the entries still to come if it is beyond any
abbrev pub invariant-loop-entry : goal.invariant-loop-entry
invariant-loop-entry g l =
    let times = g.T.PartialOrder.times in
    is_beyond times (listed l.entry-iterator) l.t ≡ is_beyond times (listed l.more.entries) l.t
