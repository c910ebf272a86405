use Rattle.std.proofs.Common.{◌≡◌, ◌++◌, map, drop}
use Rattle.update.specs.UnitTimes.{at_unit_time}
use Rattle.update.proofs.bag.push_counts.Given as goal

-- what was appended, with what the updates still to come append, is what all updates append
abbrev pub invariant-loop-update : goal.invariant-loop-update
invariant-loop-update g l =
    l.entries.items ++ map at_unit_time (drop l.update-index l.updates) ≡ l.fn.entries.items ++ map at_unit_time l.updates
