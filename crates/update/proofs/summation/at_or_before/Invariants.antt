use Rattle.std.proofs.Common.{◌≡◌, ◌++◌, map, filter, drop}
use Rattle.update.specs.UnitTimes.{at_unit_time}
use Rattle.update.proofs.summation.at_or_before.Given as goal

-- what was kept, with what is kept of the updates still to come, is what is kept of all
abbrev pub invariant-loop-update : goal.invariant-loop-update
invariant-loop-update g l =
    let times = g.T.PartialOrder.times in
    l.gone.items ++ map at_unit_time (filter (λ u. times.below u.time l.t) (drop l.update-index l.updates)) ≡ map at_unit_time (filter (λ u. times.below u.time l.t) l.updates)
