-- The frontier of one port of a node, event by event.
use Rattle.std.proofs.Common.{◌≡◌, ℕ, Bool, true, false, ◌&&◌, ◌||◌, not, eqb, List, [], ◌∷◌, ◌++◌, sym, refl, ap, ◌∙◌}
use Rattle.std.proofs.lemmas.Bool.{or_left, and_from, eq-eqb, false_from_ne_true, false≢true}
use Rattle.lattice.specs.Times.{Times}
use Rattle.lattice.specs.Order.{PartialOrderLaws}
use Rattle.lattice.specs.Frontiers.{is_beyond, all_beyond}
use Rattle.antichain.proofs.Lists.{Among, all_at, all_from}
use Rattle.plan.specs.Edges.{numbers_where}
use Rattle.plan.specs.Nodes.{is_input}
use Rattle.progress.specs.declared.place.Place.{Place}
use Rattle.progress.specs.Tallies.{is_port_upstream}
use Rattle.histories.specs.declared.event.Bundle.{Bundle}
use Rattle.histories.specs.declared.event.Event.{Event}
use Rattle.histories.specs.Histories.Dataflows.{Dataflow, IsDataflow}
use Rattle.histories.specs.Histories.States.{State, update_times}
use Rattle.histories.specs.Histories.Outstanding.{port_frontier, stamps}
use Rattle.histories.specs.Histories.{initial_state, next_state, IsTake, IsAllowed}
use Rattle.histories.specs.Histories.Promises.{NeverGoesBack}
use Rattle.histories.proofs.HistoryLemmas.FlowLemmas.{is_passed, not_beyond, queued}
use Rattle.histories.proofs.HistoryLemmas.OnwardLemmas.{passed_one, passed_parts, port_onward}
use Rattle.histories.proofs.HistoryLemmas.OutstandingLemmas.{at_held, at_input, at_site, held_where, open_where, beyond_port_frontier}
use Rattle.operator_laws.specs.GatheredUpdates.{IsStamped}
use Rattle.operator_laws.proofs.ArrangeLemmas.{beyond_first}

module _ {T : Type 0} (times : Times T) (o : PartialOrderLaws times) (p : Dataflow) where
  -- before the first event the frontier of a port has passed what the least time has
  pub port_first : (n port : ℕ) → NeverGoesBack times (times.least ∷ []) (port_frontier times p (initial_state times p) n port)
  port_first n port t h =
      is_passed _ (beyond_port_frontier p (initial_state times p) n times o t port
      ∙ false_from_ne_true _ (λ b. never (beyond_first times o p t (at_input (is_port_upstream p.nodes n port)) (numbers_where is_input p.nodes) b)))
    where
      never : times.below times.least t ≡ true → ⊥
      never e = false≢true (sym (ap (λ b. not (b || false)) e) ∙ h)

  module _ (q : IsDataflow p) where
    -- what the frontier of a port has passed it has passed after each event
    pub port_stays : (w : State T) (e : Event T) → IsAllowed times p w e → (n port : ℕ) (F : List T) → NeverGoesBack times F (port_frontier times p w n port)
        → NeverGoesBack times F (port_frontier times p (next_state times p w e) n port)
    port_stays w e allowed n port F h t x = is_passed _ (port_onward times o t p q n port w e allowed (not_beyond _ (h t x)))

    -- a bundle that is taken is beyond each frontier that its port's has reached
    pub port_taken : (w : State T) (number : ℕ) (bundle : Bundle T) → IsStamped times bundle → IsTake times p w number bundle
        → (F : List T) → NeverGoesBack times F (port_frontier times p w bundle.place.node bundle.place.port) → all_beyond times F (update_times bundle.updates) ≡ true
    port_taken w number bundle stamped take F h = all_from (is_beyond times F) (update_times bundle.updates) each
      where
        n : ℕ
        n = bundle.place.node

        port : ℕ
        port = bundle.place.port

        counts : Place → Bool
        counts = is_port_upstream p.nodes n port

        counted : at_site counts bundle.place ≡ true
        counted = or_left (eqb n n && eqb port port) _ (and_from (eqb n n) (eqb port port) (eq-eqb n n refl) (eq-eqb port port refl))

        each : (t : T) → Among t (update_times bundle.updates) → is_beyond times F t ≡ true
        each t m = step (is_beyond times F t) refl
          where
            step : (c : Bool) → is_beyond times F t ≡ c → c ≡ true
            step true f = refl
            step false f =
                let late = not_beyond (is_beyond times (port_frontier times p w n port) t) (h t (is_passed (is_beyond times F t) f)) in
                let logs = passed_parts times o t (stamps (at_site counts) w.in_flight) (held_where (at_held counts) w.held ++ open_where (at_input counts) w.open_times) (sym (beyond_port_frontier p w n times o t port) ∙ late) in
                let passed = passed_one times o t (λ (b : Bundle T). at_site counts b.place) (λ (b : Bundle T). b.stamp) w.in_flight logs.0 bundle (queued bundle.place w.in_flight number bundle take.waits).0 counted in
                absurd (false≢true (sym passed ∙ all_at (is_beyond times bundle.stamp) (update_times bundle.updates) t stamped m))
