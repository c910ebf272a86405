-- Recursion on a plan: a property of a node that is found from the node and from the same property
-- of its sources. The width of a node, its ancestors, its query and its bound are defined in this
-- way.
use Rattle.std.specs.Prelude.{ℕ, zero, suc, List}
use Rattle.plan.specs.Nodes.{node_at}
use Rattle.plan.specs.declared.node.Node.{Node}

-- the property of node n, by a recursion of depth d; each step goes from a node to its sources
abbrev pub found_within : {A : Type 0} → A → (ℕ → Node → (ℕ → A) → A) → List Node → ℕ → ℕ → A
found_within nothing step p zero n = nothing
found_within nothing step p (suc d) n = step n (node_at p n) (found_within nothing step p d)

-- the property of node n; depth n + 1 is enough, because sources have smaller numbers
abbrev pub found : {A : Type 0} → A → (ℕ → Node → (ℕ → A) → A) → List Node → ℕ → A
found nothing step p n = found_within nothing step p (suc n) n
