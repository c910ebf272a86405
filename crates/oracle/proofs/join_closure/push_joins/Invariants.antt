use Rattle.std.proofs.Common.{◌≡◌, ◌++◌, map, take}
use Rattle.std.specs.List.{filter}
use Rattle.plan.specs.Changes.{has_passed}
use Rattle.oracle.proofs.join_closure.push_joins.Given as goal

-- the passed joins so far
abbrev pub invariant-loop-i : goal.invariant-loop-i
invariant-loop-i g l = l.times.items ≡ l.initial.times.items ++ filter (has_passed g.T.PartialOrder.times l.frontier) (map (λ s. g.T.PartialOrder.times.joined s l.t) (take l.i l.initial.times.items))
