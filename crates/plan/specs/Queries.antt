-- The meaning of a view: its operators, applied one after another to the bags of the inputs.
use Rattle.std.specs.Prelude.{ℕ, List, [], Option, Some, None, slice_get}
use Rattle.update.specs.Bags.{Entry}
use Rattle.plan.specs.Nodes.{sources, key_width}
use Rattle.plan.specs.Upward.{found}
use Rattle.plan.specs.Operators.{operator_output}
use Rattle.plan.specs.declared.node.Node.{Node}

-- what comes to a port: the value of its source; an input has no source, and gets the value from
-- outside
abbrev pub source_value : {A : Type 0} → A → (ℕ → A) → Option ℕ → A
source_value outside of None = outside
source_value outside of (Some source) = of source

-- the bag of node n, given a bag for each input
unfoldable pub query : List Node → (ℕ → List Entry) → ℕ → List Entry
query p inputs n =
    found [] (λ m node bags. operator_output (key_width p node) node
    (λ port. source_value (inputs m) bags (slice_get (sources node) port))) p n
