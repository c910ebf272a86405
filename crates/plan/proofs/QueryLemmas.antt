-- Queries: alike bags of the inputs give alike bags at every node.
use Rattle.std.proofs.Common.{ℕ, zero, suc, List, [], Option, Some, None, slice_get, refl}
use Rattle.update.specs.Bags.{Entry, Alike}
use Rattle.plan.specs.Nodes.{node_at, sources, key_width}
use Rattle.plan.specs.Upward.{found_within}
use Rattle.plan.specs.Operators.{operator_output}
use Rattle.plan.specs.Queries.{query, source_value}
use Rattle.plan.specs.declared.node.Node.{Node}
use Rattle.plan.proofs.OperatorLemmas.{given_alike}

-- the step of the recursion that finds queries
abbrev query_step : List Node → (ℕ → List Entry) → ℕ → Node → (ℕ → List Entry) → List Entry
query_step p inputs m node bags = operator_output (key_width p node) node (λ port. source_value (inputs m) bags (slice_get (sources node) port))

-- a port gets alike bags if the bags of all nodes are alike, and if what comes from outside is
pub handed_alike : (a b : List Entry) → Alike a b → (c d : ℕ → List Entry) → ((n : ℕ) → Alike (c n) (d n)) → (source : Option ℕ) → Alike (source_value a c source) (source_value b d source)
handed_alike a b h c d i None = h
handed_alike a b h c d i (Some source) = i source

module _ (p : List Node) (a b : ℕ → List Entry) (h : (input : ℕ) → Alike (a input) (b input)) where
  within_alike : (steps n : ℕ) → Alike (found_within [] (query_step p a) p steps n) (found_within [] (query_step p b) p steps n)
  within_alike zero n = λ row. refl
  within_alike (suc steps) n =
      given_alike (key_width p (node_at p n)) (node_at p n)
      (λ port. source_value (a n) (found_within [] (query_step p a) p steps) (slice_get (sources (node_at p n)) port))
      (λ port. source_value (b n) (found_within [] (query_step p b) p steps) (slice_get (sources (node_at p n)) port))
      (λ port s. handed_alike (a n) (b n) (h n) (found_within [] (query_step p a) p steps) (found_within [] (query_step p b) p steps) (within_alike steps) (slice_get (sources (node_at p n)) port))

-- a query depends only on the bags of its inputs, not on how they are listed
pub query_alike : (p : List Node) (a b : ℕ → List Entry) → ((input : ℕ) → Alike (a input) (b input)) → (n : ℕ) → Alike (query p a n) (query p b n)
unfolding query
query_alike p a b h n = within_alike p a b h (suc n) n
