use Rattle.std.proofs.Common.{◌≡◌, map, take}
use Rattle.lattice.specs.Pairs.{make_pair}
use Rattle.trials.proofs.sketches.list.Given as goal

abbrev pub invariant-loop-time : goal.invariant-loop-time
invariant-loop-time l = l.list.items ≡ map (λ c. record { time = make_pair c.0.0 c.0.1; row = c.1.now; diff = c.2 }) (take l.time-index l.changes)
