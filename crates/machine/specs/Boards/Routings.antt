-- What a routing keeps of a dataflow, so that a cut need not go over the plan.
use Rattle.std.specs.Prelude.{◌≡◌, ℕ, List, map, length, Option}
use Rattle.plan.specs.Ancestors.{numbers_below}
use Rattle.plan.specs.Edges.{edges_from}
use Rattle.plan.specs.Nodes.{arranged_by}
use Rattle.plan.specs.declared.edges.Edge.{Edge}
use Rattle.plan.specs.declared.node.Node.{Node}
use Rattle.histories.specs.Histories.Dataflows.{Dataflow, IsDataflow}

-- by node, the edges that lead from it
abbrev pub all_edges : List Node → List (List Edge)
all_edges nodes = map (edges_from nodes) (numbers_below (length nodes))

-- the tables have the edges from each node, and the number of columns by which each node is
-- arranged
pub record IsRouting (p : Dataflow) (outgoing : List (List Edge)) (columns : List (Option ℕ)) : Type 0 where
  pub dataflow : IsDataflow p
  pub edges : outgoing ≡ all_edges p.nodes
  pub arranged : columns ≡ map arranged_by p.nodes
