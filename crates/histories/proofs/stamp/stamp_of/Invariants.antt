use Rattle.std.proofs.Common.{◌≡◌, [], drop}
use Rattle.histories.specs.Histories.States.{update_times}
use Rattle.histories.specs.Histories.Outstanding.{with_times}
use Rattle.histories.proofs.stamp.stamp_of.Given as goal

-- the frontier so far, with the times that are left, is the frontier of all
abbrev pub invariant-loop-i : goal.invariant-loop-i
invariant-loop-i g l =
    let times = g.T.PartialOrder.times in
    with_times times l.stamp.items (update_times (drop l.i l.updates)) ≡ with_times times [] (update_times l.updates)
