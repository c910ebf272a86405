use Rattle.std.proofs.Common.{◌++◌, map, take, drop}
use Rattle.update.specs.Bags.{Alike}
use Rattle.update.specs.Updates.{as_of, entry}
use Rattle.views.proofs.last_read.push_arrived.Given as goal

-- those of the part up to the position are added up
abbrev pub invariant-loop-position : goal.invariant-loop-position
invariant-loop-position g l = Alike (map entry l.arrived.items) (map entry l.fn.arrived.items ++ as_of g.T.PartialOrder.times l.t (drop l.initial.position (take l.position l.captured)))
