use Rattle.std.proofs.Common.{◌≡◌}
use Rattle.std.specs.List.{filter, flat_map}
use Rattle.plan.specs.Ancestors.{numbers_below}
use Rattle.plan.specs.Edges.{leads_from, ports_of}
use Rattle.plan.proofs.plan.Plan.edges_from.Given as goal

-- the edges to the nodes so far are listed
abbrev pub invariant-loop-n : goal.invariant-loop-n
invariant-loop-n l = l.edges.items ≡ filter (leads_from l.self l.id) (flat_map ports_of (numbers_below l.n))
