-- A node that reads others is sent updates only through its ports, so the frontiers of its ports
-- together pass what its input frontier passes.
use Rattle.std.proofs.Common.{◌≡◌, ℕ, zero, suc, ◌<◌, ◌≤◌, Bool, true, not, ◌&&◌, eqb, List, [], ◌∷◌, length, Some, refl, ap, sym, subst, ◌∙◌, arith, ⊎_elim}
use Rattle.std.specs.Prelude.{slice_get}
use Rattle.std.specs.List.{list_all}
use Rattle.std.proofs.lemmas.Bool.{and_parts, and_from, or_left, or_right, or_cases, eqb-true, eq-eqb, ne_eqb, false≢true}
use Rattle.std.proofs.lemmas.Option.{slice_get_within}
use Rattle.lattice.specs.Times.{Times}
use Rattle.lattice.specs.Order.{PartialOrderLaws}
use Rattle.lattice.specs.Frontiers.{is_beyond}
use Rattle.lattice.proofs.BoundLemmas.{same_test}
use Rattle.antichain.proofs.AntichainLemmas.{not_true, not_from}
use Rattle.antichain.proofs.Lists.{all_at, all_from}
use Rattle.plan.specs.Ancestors.{reaches, numbers_below}
use Rattle.plan.specs.Changes.{has_passed}
use Rattle.plan.specs.Nodes.{node_at, sources, is_input}
use Rattle.plan.specs.Rules.{IsPlan}
use Rattle.plan.specs.declared.node.Node.{Node}
use Rattle.plan.proofs.PlanLemmas.{source_smaller}
use Rattle.plan.proofs.SortLemmas.{no_source}
use Rattle.plan.proofs.StandLemmas.{above_itself, above_cases, above_earlier, above_from_source}
use Rattle.progress.specs.declared.place.Place.{Place}
use Rattle.progress.specs.declared.place.Place.TheVariants.{Port, Held, Input}
use Rattle.progress.specs.declared.counted.Counted.{Counted}
use Rattle.progress.specs.Tallies.{node_of, is_port, is_held_at, comes_from, is_input_upstream, is_port_upstream, IsPlace, AreInPlace, input_frontier, port_frontier}
use Rattle.progress.proofs.FrontierLemmas.{counted_beyond, counted_at}
use Rattle.progress.proofs.NumberLemmas.{number_below, numbered}

-- a number within a list is that of some element
there : (xs : List ℕ) (i : ℕ) → i < length xs → (s : ℕ) × (slice_get xs i ≡ Some s)
there [] i l = absurd (omega (arith, l))
there (x ∷ xs) zero l = (x, refl)
there (x ∷ xs) (suc i) l = there xs i (omega (arith, l))

module _ (nodes : List Node) (plan : IsPlan nodes) (n : ℕ) where
  -- the port of a node lies at the node, and its own held times do not wait there
  at_port : (port : ℕ) (place : Place) → is_port n port place ≡ true → is_input_upstream nodes n place ≡ true
  at_port port (Port node number) h =
      let e = eqb-true node n (and_parts (eqb node n) (eqb number port) h).0 in
      and_from (reaches nodes node n) true (ap (λ m. reaches nodes m n) e ∙ above_itself nodes plan n) refl
  at_port port (Held node) h = absurd (false≢true h)
  at_port port (Input node) h = absurd (false≢true h)

  -- what lies before the node is not held at the node
  not_held : (place : Place) → node_of place < n → not (is_held_at n place) ≡ true
  not_held (Port node number) l = refl
  not_held (Held node) l = ap not (ne_eqb node n (λ e. absurd (omega (arith, e, l))))
  not_held (Input node) l = refl

  -- what counts for a port that reads a node counts for the input frontier
  port_counts : (port s : ℕ) → slice_get (sources (node_at nodes n)) port ≡ Some s → (place : Place) → is_port_upstream nodes n port place ≡ true → is_input_upstream nodes n place ≡ true
  port_counts port s e place h =
      ⊎_elim
      (λ k. at_port port place k)
      (λ k.
      let above : reaches nodes (node_of place) s ≡ true = sym (ap (λ source. comes_from nodes n source place) e) ∙ k in
      let before = source_smaller nodes plan n port s e in
      let up_to = above_earlier nodes plan (node_of place) s above in
      and_from (reaches nodes (node_of place) n) (not (is_held_at n place))
      (above_from_source nodes plan (node_of place) n port s e above)
      (not_held place (omega (arith, before, up_to))))
      (or_cases (is_port n port place) (comes_from nodes n (slice_get (sources (node_at nodes n)) port) place) h)

  module _ (reads : 1 ≤ length (sources (node_at nodes n))) where
    abbrev Counts : Place → Type 0
    Counts place = (port : ℕ) × (port < length (sources (node_at nodes n))) × (is_port_upstream nodes n port place ≡ true)

    -- what lies at the node itself and counts for its input frontier waits at one of its ports
    own_place : (place : Place) → IsPlace nodes place → node_of place ≡ n → not (is_held_at n place) ≡ true → Counts place
    own_place (Port node number) placed e h =
        let within : number < length (sources (node_at nodes node)) =
        ⊎_elim
        (λ z. let some = subst (λ m. 1 ≤ length (sources (node_at nodes m))) (sym e) reads in omega (arith, z, some))
        (λ l. l)
        placed.1
        in (
          number,
          subst (λ m. number < length (sources (node_at nodes m))) e within,
          or_left (eqb node n && eqb number number) (comes_from nodes n (slice_get (sources (node_at nodes n)) number) (Port node number))
              (and_from (eqb node n) (eqb number number) (eq-eqb node n e) (eq-eqb number number refl)),
        )
    own_place (Held node) placed e h = absurd (false≢true (sym (ap not (eq-eqb node n e)) ∙ h))
    own_place (Input node) placed e h =
        let s = there (sources (node_at nodes n)) 0 reads in
        absurd (no_source (node_at nodes n) 0 s.0 s.1 (subst (λ m. is_input (node_at nodes m) ≡ true) e placed.1))

    -- a place of the plan that counts for the input frontier counts for one of the ports
    counts_at_port : (place : Place) → IsPlace nodes place → is_input_upstream nodes n place ≡ true → Counts place
    counts_at_port place placed h =
        let parts = and_parts (reaches nodes (node_of place) n) (not (is_held_at n place)) h in
        ⊎_elim
        (λ e. own_place place placed e parts.1)
        (λ r. (
          r.0,
          slice_get_within (sources (node_at nodes n)) r.0 r.1 r.2,
          or_right (is_port n r.0 place) (comes_from nodes n (slice_get (sources (node_at nodes n)) r.0) place)
              (ap (λ source. comes_from nodes n source place) r.2 ∙ r.3),
        ))
        (above_cases nodes plan (node_of place) n parts.0)

    module _ {T : Type 0} (times : Times T) (o : PartialOrderLaws times) (xs : List (Counted T)) (t : T) where
      -- the frontier of this port has passed the time
      abbrev is_over : ℕ → Bool
      is_over port = has_passed times (port_frontier times nodes xs n port) t

      into : has_passed times (input_frontier times nodes xs n) t ≡ true → list_all is_over (numbers_below (length (sources (node_at nodes n)))) ≡ true
      into passed = all_from is_over (numbers_below (length (sources (node_at nodes n)))) (λ port m.
          let s = there (sources (node_at nodes n)) port (number_below (length (sources (node_at nodes n))) port m) in
          not_from (is_beyond times (port_frontier times nodes xs n port) t) (λ h.
          let x = counted_at times o (is_port_upstream nodes n port) xs t h in
          not_true (is_beyond times (input_frontier times nodes xs n) t) passed
          (counted_beyond times o (is_input_upstream nodes n) xs x.0 t x.1 (port_counts port s.0 s.1 x.0.place x.2) x.3)))

      back : AreInPlace nodes xs → list_all is_over (numbers_below (length (sources (node_at nodes n)))) ≡ true → has_passed times (input_frontier times nodes xs n) t ≡ true
      back placed passed = not_from (is_beyond times (input_frontier times nodes xs n) t) (λ h.
          let x = counted_at times o (is_input_upstream nodes n) xs t h in
          let r = counts_at_port x.0.place (placed x.0 x.1) x.2 in
          not_true (is_beyond times (port_frontier times nodes xs n r.0) t)
          (all_at is_over (numbers_below (length (sources (node_at nodes n)))) r.0 passed (numbered (length (sources (node_at nodes n))) r.0 r.1))
          (counted_beyond times o (is_port_upstream nodes n r.0) xs x.0 t x.1 r.2 x.3))

      -- the input frontier has passed the time exactly if the frontiers of all ports have
      pub ports_pass : AreInPlace nodes xs → has_passed times (input_frontier times nodes xs n) t ≡ list_all is_over (numbers_below (length (sources (node_at nodes n))))
      ports_pass placed = same_test (has_passed times (input_frontier times nodes xs n) t) (list_all is_over (numbers_below (length (sources (node_at nodes n))))) into (back placed)
