-- A place counts for a frontier of a node only if it lies at the node or above it.
use Rattle.std.proofs.Common.{◌≡◌, ℕ, true, false, not, ◌&&◌, eqb, List, Option, Some, None, ap, sym, ◌∙◌, ⊎_elim}
use Rattle.std.specs.Prelude.{slice_get}
use Rattle.std.proofs.lemmas.Bool.{and_parts, or_cases, eqb-true, false≢true}
use Rattle.plan.specs.Ancestors.{reaches}
use Rattle.plan.specs.Nodes.{node_at, sources}
use Rattle.plan.specs.Rules.{IsPlan}
use Rattle.plan.specs.declared.node.Node.{Node}
use Rattle.plan.proofs.StandLemmas.{above_itself, above_from_source}
use Rattle.progress.specs.declared.place.Place.{Place}
use Rattle.progress.specs.declared.place.Place.TheVariants.{Port, Held, Input}
use Rattle.progress.specs.declared.scope.Scope.{Scope}
use Rattle.progress.specs.declared.scope.Scope.TheVariants.{Output, Input as InputOf, Port as PortOf}
use Rattle.progress.specs.Tallies.{node_of, is_port, is_held_at, is_input_at, comes_from}
use Rattle.progress.specs.Scopes.{scope_node, is_in_scope}
use Rattle.progress.proofs.GraphLemmas.{is_false}

port_node : (n p : ℕ) (place : Place) → is_port n p place ≡ true → node_of place ≡ n
port_node n p (Port node port) h = eqb-true node n (and_parts (eqb node n) (eqb port p) h).0
port_node n p (Held node) h = absurd (false≢true h)
port_node n p (Input node) h = absurd (false≢true h)

input_node : (n : ℕ) (place : Place) → is_input_at n place ≡ true → node_of place ≡ n
input_node n (Port node port) h = absurd (false≢true h)
input_node n (Held node) h = absurd (false≢true h)
input_node n (Input node) h = eqb-true node n h

module _ (nodes : List Node) (plan : IsPlan nodes) where
  at_node : (n : ℕ) (place : Place) → node_of place ≡ n → reaches nodes (node_of place) n ≡ true
  at_node n place e = ap (λ m. reaches nodes m n) e ∙ above_itself nodes plan n

  from_source : (n p : ℕ) (source : Option ℕ) → slice_get (sources (node_at nodes n)) p ≡ source → (place : Place) → comes_from nodes n source place ≡ true → reaches nodes (node_of place) n ≡ true
  from_source n p None e place h = at_node n place (input_node n place h)
  from_source n p (Some s) e place h = above_from_source nodes plan (node_of place) n p s e h

  -- what the place does not reach does not count it
  pub unreached : (n : ℕ) (place : Place) → reaches nodes (node_of place) n ≡ false → (scope : Scope) → scope_node scope ≡ n → is_in_scope nodes scope place ≡ false
  unreached n place h (Output m) e = ap (reaches nodes (node_of place)) e ∙ h
  unreached n place h (InputOf m) e = ap (λ b. b && not (is_held_at m place)) (ap (reaches nodes (node_of place)) e ∙ h)
  unreached n place h (PortOf m p) e =
      is_false (is_in_scope nodes (PortOf m p) place) (λ k.
      false≢true (sym (ap (reaches nodes (node_of place)) e ∙ h) ∙ ⊎_elim
      (λ i. at_node m place (port_node m p place i))
      (λ i. from_source m p (slice_get (sources (node_at nodes m)) p) (λ j. slice_get (sources (node_at nodes m)) p) place i)
      (or_cases (is_port m p place) (comes_from nodes m (slice_get (sources (node_at nodes m)) p) place) k)))
