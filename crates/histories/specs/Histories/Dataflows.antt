-- A dataflow: a plan, and how many workers run it together. Each worker runs every node, on its
-- share of the rows.
use Rattle.std.specs.Prelude.{ℕ, Bool, ◌≤◌, List, ℤ, Option, slice_get}
use Rattle.row.specs.Routing.{route_of}
use Rattle.update.specs.Bags.{Entry}
use Rattle.plan.specs.Nodes.{node_at, sources, key_width}
use Rattle.plan.specs.Operators.{operator_output}
use Rattle.plan.specs.Ancestors.{reaches}
use Rattle.plan.specs.Rules.{IsPlan}
use Rattle.plan.specs.declared.node.Node.{Node}

pub record Dataflow : Type 0 where
  pub nodes : List Node
  pub workers : ℕ

-- the nodes are a plan, and at least one worker runs it
pub record IsDataflow (p : Dataflow) : Type 0 where
  pub plan : IsPlan p.nodes
  pub staffed : 1 ≤ p.workers

-- the node of a number
abbrev pub node_of : Dataflow → ℕ → Node
node_of p n = node_at p.nodes n

-- the node that is read at a port; none at an input
abbrev pub source_of : Dataflow → ℕ → ℕ → Option ℕ
source_of p n port = slice_get (sources (node_of p n)) port

-- what a node makes of a bag for each port
abbrev pub node_output : Dataflow → ℕ → (ℕ → List Entry) → List Entry
node_output p n bags = operator_output (key_width p.nodes (node_of p n)) (node_of p n) bags

-- m is n or an ancestor of n
abbrev pub upstream : Dataflow → ℕ → ℕ → Bool
upstream p n m = reaches p.nodes m n

-- the worker that has the rows of a key
abbrev pub route : Dataflow → List ℤ → ℕ
route p key = route_of key p.workers
