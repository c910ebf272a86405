-- The ancestors of a plan's nodes, and which inputs feed them.
use Rattle.std.proofs.Common.{◌≡◌, ℕ, ◌<◌, ◌≤◌, Bool, true, false, ◌||◌, eqb, IsTrue, ◌⊎◌, inl, inr, ⊎_elim, Some, List, length, slice_get, refl, ap, sym, subst, ◌∙◌, eqb-true, eq-eqb, arith}
use Rattle.std.specs.List.{list_any}
use Rattle.std.proofs.lemmas.Bool.{and_parts, and_from, or_left, or_right}
use Rattle.plan.specs.Nodes.{node_at, sources, is_input}
use Rattle.plan.specs.Ancestors.{reaches, feeds}
use Rattle.plan.specs.Rules.{IsPlan}
use Rattle.plan.specs.declared.node.Node.{Node}
use Rattle.plan.specs.declared.node.Node.TheVariants.{Input}
use Rattle.plan.proofs.UpwardLemmas.{by_smaller, list_any_from, list_any_port}
use Rattle.plan.proofs.PlanLemmas.{source_smaller}
use Rattle.plan.proofs.StepLemmas.{input_or_source, above_by_sources}

either : (a b : Bool) → IsTrue (a || b) → IsTrue a ⊎ IsTrue b
either true b h = inl refl
either false b h = inr h

module _ (p : List Node) (plan : IsPlan p) where
  -- a node reaches itself
  pub above_itself : (n : ℕ) → IsTrue (reaches p n n)
  above_itself n = above_by_sources p plan n n ∙ or_left (eqb n n) (list_any (reaches p n) (sources (node_at p n))) (eq-eqb n n refl)

  -- what reaches a source reaches the node that reads it
  pub above_from_source : (m n port s : ℕ) → slice_get (sources (node_at p n)) port ≡ Some s → IsTrue (reaches p m s) → IsTrue (reaches p m n)
  above_from_source m n port s e h = above_by_sources p plan m n ∙ or_right (eqb m n) (list_any (reaches p m) (sources (node_at p n))) (list_any_from (reaches p m) (sources (node_at p n)) port s e h)

  -- what reaches a node is the node itself or reaches one of its sources
  pub above_cases : (m n : ℕ) → IsTrue (reaches p m n) → (m ≡ n) ⊎ ((port : ℕ) × (s : ℕ) × (slice_get (sources (node_at p n)) port ≡ Some s) × IsTrue (reaches p m s))
  above_cases m n h =
      ⊎_elim
      (λ e. inl (eqb-true m n e))
      (λ k. inr (list_any_port (reaches p m) (sources (node_at p n)) k))
      (either (eqb m n) (list_any (reaches p m) (sources (node_at p n))) (sym (above_by_sources p plan m n) ∙ h))

  -- a node that reaches another has a number that is not larger
  pub above_earlier : (m n : ℕ) → IsTrue (reaches p m n) → m ≤ n
  above_earlier m = by_smaller (λ n. IsTrue (reaches p m n) → m ≤ n) (λ n rest h.
      ⊎_elim
      (λ e. omega arith)
      (λ r. let i = source_smaller p plan n r.0 r.1 r.2 in let j = rest r.1 i r.3 in omega arith)
      (above_cases m n h))

  -- reaching is transitive
  pub above_transitive : (l m n : ℕ) → IsTrue (reaches p l m) → IsTrue (reaches p m n) → IsTrue (reaches p l n)
  above_transitive l m n h = by_smaller (λ n. IsTrue (reaches p m n) → IsTrue (reaches p l n)) (λ n rest k.
      ⊎_elim
      (λ e. subst (λ o. IsTrue (reaches p l o)) e h)
      (λ r. above_from_source l n r.0 r.1 r.2 (rest r.1 (source_smaller p plan n r.0 r.1 r.2) r.3))
      (above_cases m n k)) n

  -- an input feeds itself
  pub feeds_itself : (n width : ℕ) → node_at p n ≡ Input width → IsTrue (feeds p n n)
  feeds_itself n width e = and_from (is_input (node_at p n)) (reaches p n n) (ap is_input e) (above_itself n)

  -- an input that feeds a source feeds the node that reads it
  pub feeds_from_source : (m n port s : ℕ) → slice_get (sources (node_at p n)) port ≡ Some s → IsTrue (feeds p m s) → IsTrue (feeds p m n)
  feeds_from_source m n port s e h =
      let parts = and_parts (is_input (node_at p m)) (reaches p m s) h in
      and_from (is_input (node_at p m)) (reaches p m n) parts.0 (above_from_source m n port s e parts.1)

module _ (p : List Node) (plan : IsPlan p) where
  -- every node is fed by some input
  pub fed_by : (n : ℕ) → n < length p → (input : ℕ) × (input < length p) × IsTrue (feeds p input n)
  fed_by = by_smaller (λ n. n < length p → (input : ℕ) × (input < length p) × IsTrue (feeds p input n)) (λ n rest l.
      ⊎_elim
      (λ r. (n, l, feeds_itself p plan n r.0 r.1))
      (λ r.
      let i = source_smaller p plan n 0 r.0 r.1 in
      let f = rest r.0 i (omega arith) in
      (f.0, f.1, feeds_from_source p plan f.0 n 0 r.0 r.1 f.2))
      (input_or_source (node_at p n)))
