use Rattle.std.proofs.Common.{◌≡◌, map}
use Rattle.plan.specs.Ancestors.{numbers_below}
use Rattle.plan.specs.Edges.{edges_from}
use Rattle.machine.proofs.board.routing.edges_of.Given as goal

abbrev pub invariant-loop-n : goal.invariant-loop-n
invariant-loop-n l = l.edges.items ≡ map (edges_from l.plan) (numbers_below l.n)
