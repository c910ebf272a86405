use Rattle.std.specs.List.{AllByRecursion}
use Rattle.lattice.specs.Bitimes.{bitime_times}
use Rattle.crews.specs.Employment.{HasNothingToDo}
use Rattle.crews.proofs.employment.carry_on.Given as goal

-- who is back among the workers has nothing to do
abbrev pub invariant-loop-worker : goal.invariant-loop-worker
invariant-loop-worker g l = AllByRecursion (HasNothingToDo bitime_times) l.workers.items
