use Rattle.std.proofs.Common.{◌≡◌, ◌++◌, map, take}
use Rattle.std.specs.List.{filter}
use Rattle.plan.specs.Changes.{has_passed}
use Rattle.oracle.proofs.join_closure.push_times.Given as goal

-- the passed times so far
abbrev pub invariant-loop-update : goal.invariant-loop-update
invariant-loop-update g l = l.times.items ≡ l.initial.times.items ++ filter (has_passed g.T.PartialOrder.times l.frontier) (map (λ u. u.time) (take l.update-index l.updates))
