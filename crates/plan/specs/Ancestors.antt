-- The ancestors of a node: its sources, their sources, and so on.
use Rattle.std.specs.Prelude.{ℕ, zero, suc, Bool, false, ◌||◌, ◌&&◌, eqb, List, [], ◌∷◌, ◌++◌, length}
use Rattle.std.specs.List.{filter, list_any}
use Rattle.plan.specs.Nodes.{node_at, sources, is_input}
use Rattle.plan.specs.Upward.{found}
use Rattle.plan.specs.declared.node.Node.{Node}

-- m is n or an ancestor of n
unfoldable pub reaches : List Node → ℕ → ℕ → Bool
reaches p m n = found false (λ k node above. eqb m k || list_any above (sources node)) p n

-- m is an input that feeds node n
abbrev pub feeds : List Node → ℕ → ℕ → Bool
feeds p m n = is_input (node_at p m) && reaches p m n

-- the numbers below n, in order
abbrev pub numbers_below : ℕ → List ℕ
numbers_below zero = []
numbers_below (suc n) = numbers_below n ++ n ∷ []

-- the inputs that feed node n, by their numbers
abbrev pub feeders : List Node → ℕ → List ℕ
feeders p n = filter (λ m. feeds p m n) (numbers_below (length p))
