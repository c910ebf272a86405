-- The ports of a node, and families of lists with one list for each port.
use Rattle.std.specs.Prelude.{ℕ, Bool, ◌||◌, eqb, nat_lt, if◌then◌else◌, List, [], ◌++◌, length}
use Rattle.plan.specs.Nodes.{sources}
use Rattle.plan.specs.declared.node.Node.{Node}

-- the node has the port: port 0, or a port at which it reads a source
abbrev pub is_port : Node → ℕ → Bool
is_port node port = eqb port 0 || nat_lt port (length (sources node))

-- the list at one port, and nothing at the others
abbrev pub at_port : {A : Type 0} → ℕ → List A → ℕ → List A
at_port port xs p = if eqb p port then xs else []

-- at one port the list followed by what was there, and at the others what was there
abbrev pub with_more_at : {A : Type 0} → ℕ → List A → (ℕ → List A) → ℕ → List A
with_more_at port xs lists p = if eqb p port then xs ++ lists p else lists p
