use Rattle.std.proofs.Common.{◌≡◌, map, take}
use Rattle.plan.specs.Nodes.{arranged_by}
use Rattle.machine.proofs.board.routing.arranged_of.Given as goal

abbrev pub invariant-loop-n : goal.invariant-loop-n
invariant-loop-n l = l.columns.items ≡ map arranged_by (take l.n l.plan)
