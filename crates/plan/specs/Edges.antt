-- Who reads a node, and which nodes are inputs and which are views.
use Rattle.std.specs.Prelude.{ℕ, Bool, false, List, [], ◌∷◌, Option, Some, None, length, eqb, slice_get, get_or}
use Rattle.std.specs.List.{filter, flat_map}
use Rattle.plan.specs.Nodes.{node_at, sources}
use Rattle.plan.specs.Ancestors.{numbers_below}
use Rattle.plan.specs.declared.edges.Edge.{Edge}
use Rattle.plan.specs.declared.node.Node.{Node}

-- the option holds the number n
abbrev pub is_number : ℕ → Option ℕ → Bool
is_number n None = false
is_number n (Some m) = eqb m n

-- the edge leads from node n: its reader reads n at its port
abbrev pub leads_from : List Node → ℕ → Edge → Bool
leads_from p n edge = is_number n (slice_get (sources (node_at p edge.reader)) edge.port)

-- the two ports that a node may have
abbrev pub ports_of : ℕ → List Edge
ports_of reader = record { reader = reader; port = 0 } ∷ record { reader = reader; port = 1 } ∷ []

-- the edges that lead from node n, in the order of their readers and ports
abbrev pub edges_from : List Node → ℕ → List Edge
edges_from p n = filter (leads_from p n) (flat_map ports_of (numbers_below (length p)))

-- the numbers of a plan's nodes that pass a test, in order
abbrev pub numbers_where : (Node → Bool) → List Node → List ℕ
numbers_where test p = filter (λ n. test (node_at p n)) (numbers_below (length p))

-- there is a number, and it is marked
abbrev pub is_marked : List Bool → Option ℕ → Bool
is_marked marks None = false
is_marked marks (Some n) = get_or marks n false
