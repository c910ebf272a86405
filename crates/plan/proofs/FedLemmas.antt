-- The query of a plan's node depends only on the inputs that feed the node.
use Rattle.std.proofs.Common.{◌≡◌, ℕ, ◌<◌, Bool, true, false, IsTrue, Option, Some, None, List, [], length, slice_get, refl, sym, ap, ◌∙◌, arith}
use Rattle.std.proofs.lemmas.Bool.{and_from, true≢false}
use Rattle.update.specs.Bags.{Entry, Alike, count_of}
use Rattle.plan.specs.Nodes.{node_at, sources, key_width, is_input}
use Rattle.plan.specs.Ancestors.{reaches, feeds}
use Rattle.plan.specs.Operators.{operator_output}
use Rattle.plan.specs.Queries.{source_value, query}
use Rattle.plan.specs.Rules.{IsPlan}
use Rattle.plan.specs.declared.node.Node.{Node}
use Rattle.plan.specs.declared.node.Node.TheVariants.{Input}
use Rattle.plan.proofs.UpwardLemmas.{by_smaller}
use Rattle.plan.proofs.PlanLemmas.{source_smaller}
use Rattle.plan.proofs.StepLemmas.{query_by_sources}
use Rattle.plan.proofs.StandLemmas.{above_itself, feeds_from_source}

-- the bag that comes to each port of a node
abbrev port_bags : Node → List Entry → (ℕ → List Entry) → ℕ → List Entry
port_bags node outside bags port = source_value outside bags (slice_get (sources node) port)

-- an input gives what comes from outside; any other node reads only ports that have a source
given_input : (k : ℕ) (node : Node) (outside : List Entry) (bags : ℕ → List Entry) → IsTrue (is_input node) → operator_output k node (port_bags node outside bags) ≡ outside
given_input k (Input width) outside bags h = refl
given_input k node outside bags h = absurd (true≢false (sym h))

given_others : (k : ℕ) (node : Node) (outside : List Entry) (bags : ℕ → List Entry) → is_input node ≡ false → operator_output k node (port_bags node outside bags) ≡ operator_output k node (port_bags node [] bags)
given_others k (Input width) outside bags h = absurd (true≢false h)
given_others k node outside bags h = refl

-- this module assumes that an operator gives alike bags if the bags at its ports are alike
module _ (operators : (k : ℕ) (node : Node) (a b : ℕ → List Entry) → ((port : ℕ) → Alike (a port) (b port)) → Alike (operator_output k node a) (operator_output k node b)) (p : List Node) (plan : IsPlan p) (a b : ℕ → List Entry) where
  -- the inputs that feed node n have alike bags
  abbrev AlikeFor : ℕ → Type 0
  AlikeFor n = (input : ℕ) → IsTrue (feeds p input n) → Alike (a input) (b input)

  -- a query depends only on the inputs that feed the node
  pub alike_where_fed : (n : ℕ) → n < length p → AlikeFor n → Alike (query p a n) (query p b n)
  alike_where_fed = by_smaller (λ n. n < length p → AlikeFor n → Alike (query p a n) (query p b n)) at
    where
      at : (n : ℕ) → ((m : ℕ) → m < n → m < length p → AlikeFor m → Alike (query p a m) (query p b m)) → n < length p → AlikeFor n → Alike (query p a n) (query p b n)
      at n rest l h row = ap (λ e. count_of e row) (query_by_sources p plan a n) ∙ both (is_input node) refl ∙ ap (λ e. count_of e row) (sym (query_by_sources p plan b n))
        where
          node : Node
          node = node_at p n

          key : ℕ
          key = key_width p node

          port_alike : (port : ℕ) (o : Option ℕ) → slice_get (sources node) port ≡ o → Alike (source_value [] (query p a) o) (source_value [] (query p b) o)
          port_alike port None e = λ r. refl
          port_alike port (Some s) e =
              let i = source_smaller p plan n port s e in
              rest s i (omega arith) (λ input f. h input (feeds_from_source p plan input n port s e f))

          both : (c : Bool) → is_input node ≡ c → count_of (operator_output key node (port_bags node (a n) (query p a))) row ≡ count_of (operator_output key node (port_bags node (b n) (query p b))) row
          both true e =
              ap (λ x. count_of x row) (given_input key node (a n) (query p a) e)
              ∙ h n (and_from (is_input node) (reaches p n n) e (above_itself p plan n)) row
              ∙ ap (λ x. count_of x row) (sym (given_input key node (b n) (query p b) e))
          both false e =
              ap (λ x. count_of x row) (given_others key node (a n) (query p a) e)
              ∙ operators key node (port_bags node [] (query p a)) (port_bags node [] (query p b)) (λ port. port_alike port (slice_get (sources node) port) refl) row
              ∙ ap (λ x. count_of x row) (sym (given_others key node (b n) (query p b) e))
