-- What waits at a port that reads a trace: a bundle for each insertion.
use Rattle.std.proofs.Common.{◌≡◌, ◌≢◌, ℕ, zero, suc, ◌<◌, Bool, true, false, cond, ◌&&◌, eqb, not, List, [], ◌∷◌, ◌++◌, map, length, Some, None, sym, refl, ap, ap₂, ◌∙◌, arith}
use Rattle.std.specs.List.{filter, flat_map, list_all}
use Rattle.std.proofs.lemmas.Bool.{and_parts, eqb-true, eq-eqb, ne_eqb, false≢true, true≢false}
use Rattle.std.proofs.lemmas.List.{append-nil, map-append}
use Rattle.std.proofs.lemmas.List.Concat.{flat_map-append}
use Rattle.update.specs.declared.change.Update.{Update}
use Rattle.plan.specs.Ancestors.{numbers_below}
use Rattle.plan.specs.Edges.{edges_from, leads_from, ports_of, is_number}
use Rattle.plan.specs.declared.edges.Edge.{Edge}
use Rattle.plan.specs.Nodes.{is_input, arranged_by}
use Rattle.plan.proofs.SortLemmas.{no_source}
use Rattle.trace.specs.Readings.{Insertion}
use Rattle.histories.specs.declared.event.Site.{Site}
use Rattle.histories.specs.declared.event.Bundle.{Bundle}
use Rattle.histories.specs.declared.event.Emission.{Emission}
use Rattle.histories.specs.declared.event.Event.{Event}
use Rattle.histories.specs.declared.event.Event.TheVariants.{Feed, Take, Give}
use Rattle.histories.specs.Histories.Dataflows.{Dataflow, node_of, source_of, route}
use Rattle.histories.specs.Histories.States.{State, place, same_place, updates_at, queue}
use Rattle.histories.specs.Histories.Shares.{share, share_from, are_filled}
use Rattle.histories.specs.Histories.{alone, without, next_state, give_state, IsAllowed}
use Rattle.histories.specs.Histories.Cuts.{bundled, cut_along, cut}
use Rattle.histories.proofs.HistoryLemmas.FlowLemmas.{place_same}
use Rattle.histories.proofs.HistoryLemmas.KeptLemmas.{no_totals}
use Rattle.histories.proofs.HistoryLemmas.CutLemmas.{one_below}
use Rattle.operator_laws.specs.JoinNodes.{IsQueued, is_at_port, on_top}
use Rattle.lattice.specs.Times.{Times}

module _ {T : Type 0} where
  -- what waits at a place, of two lists
  pub queue_both : (site : Site) (xs ys : List (Bundle T)) → queue site (xs ++ ys) ≡ queue site xs ++ queue site ys
  queue_both site xs ys = flat_map-append (λ (b : Bundle T). cond (same_place b.place site) (b ∷ []) []) xs ys

  -- a take elsewhere leaves what waits at a place
  pub queue_without : (site other : Site) → same_place other site ≡ false → (qs : List (Bundle T)) (j : ℕ) → queue site (without other qs j) ≡ queue site qs
  queue_without site other d [] j = refl
  queue_without site other d (b ∷ qs) zero = step (same_place b.place other) refl (queue_without site other d qs zero)
    where
      step : (c : Bool) → same_place b.place other ≡ c → queue site (without other qs zero) ≡ queue site qs → queue site (cond c qs (b ∷ without other qs zero)) ≡ queue site (b ∷ qs)
      step true e h = ap (λ c. cond c (b ∷ []) [] ++ queue site qs) (sym (ap (λ z. same_place z site) (place_same b.place other e) ∙ d))
      step false e h = ap (λ z. cond (same_place b.place site) (b ∷ []) [] ++ z) h
  queue_without site other d (b ∷ qs) (suc j) = step (same_place b.place other) (queue_without site other d qs j) (queue_without site other d qs (suc j))
    where
      step : (c : Bool) → queue site (without other qs j) ≡ queue site qs → queue site (without other qs (suc j)) ≡ queue site qs → queue site (b ∷ cond c (without other qs j) (without other qs (suc j))) ≡ queue site (b ∷ qs)
      step true h g = ap (λ z. cond (same_place b.place site) (b ∷ []) [] ++ z) h
      step false h g = ap (λ z. cond (same_place b.place site) (b ∷ []) [] ++ z) g

  -- no bundle waits at a place that was sent no updates
  pub none_sent : (site : Site) (qs : List (Bundle T)) → updates_at site qs ≡ [] → are_filled qs ≡ true → queue site qs ≡ []
  none_sent site [] e f = refl
  none_sent site (b ∷ qs) e f =
      let filled = and_parts (not (eqb (length b.updates) 0)) (list_all (λ b. not (eqb (length b.updates) 0)) qs) f in
      step (same_place b.place site) b.updates filled.0 e (λ h. none_sent site qs h filled.1)
    where
      step : (c : Bool) (us : List (Update T)) → not (eqb (length us) 0) ≡ true → cond c us [] ++ updates_at site qs ≡ [] → (updates_at site qs ≡ [] → queue site qs ≡ []) → cond c (b ∷ []) [] ++ queue site qs ≡ []
      step true [] g h r = absurd (false≢true g)
      step true (u ∷ us) g h r = absurd (some h)
        where
          some : u ∷ (us ++ updates_at site qs) ≡ [] → ⊥
          some z = cc
      step false us g h r = r h

  -- one insertion more
  on_top_more : (later taken : List (Insertion T)) (i : Insertion T) → on_top (later ++ i ∷ []) taken ≡ i ∷ on_top later taken
  on_top_more [] taken i = refl
  on_top_more (j ∷ later) taken i = on_top_more later (j ∷ taken) i

-- Events elsewhere

module _ {T : Type 0} (times : Times T) (p : Dataflow) (n port k source : ℕ) (reads : source_of p n port ≡ Some source) (stays : arranged_by (node_of p n) ≡ None) where
  share_here : (g : Emission T) → share p (place n port k) g ≡ cond (eqb g.node source) (cond (eqb g.worker k) g.updates []) []
  share_here g = (λ i. share_from p (reads i) (stays i) k g)

  share_elsewhere : (g : Emission T) → (eqb g.node source && eqb g.worker k) ≡ false → share p (place n port k) g ≡ []
  share_elsewhere g d = share_here g ∙ step (eqb g.node source) (eqb g.worker k) d
    where
      step : (a b : Bool) → (a && b) ≡ false → cond a (cond b g.updates []) [] ≡ []
      step true true e = absurd (true≢false e)
      step true false e = refl
      step false b e = refl

  same_queue : (w : State T) (e : Event T) → IsAllowed times p w e → is_at_port n port k source e ≡ false → queue (place n port k) (next_state times p w e).in_flight ≡ queue (place n port k) w.in_flight
  same_queue w (Feed c f) a d =
      queue_both (place n port k) w.in_flight (alone p f ∷ [])
      ∙ (ap (λ b. queue (place n port k) w.in_flight ++ (cond (b && (eqb 0 port && eqb (route p f.update.row) k)) (alone p f ∷ []) [] ++ []))
      (ne_eqb f.input n (λ e. no_source (node_of p n) port source reads (ap (λ m. is_input (node_of p m)) (sym e) ∙ a.input.1)))
      ∙ append-nil (queue (place n port k) w.in_flight))
  same_queue w (Take number b) a d = queue_without (place n port k) b.place d w.in_flight number
  same_queue w (Give g ts sent) a d =
      let here = place n port k in
      queue_both here w.in_flight sent
      ∙ (ap (λ z. queue here w.in_flight ++ z) (none_sent here sent (no_totals (updates_at here sent) (share p here g) (a.whole here) (share_elsewhere g d)) a.filled)
      ∙ append-nil (queue here w.in_flight))
  same_queue w e a d = refl

  -- the law for what waits at a port, for events elsewhere
  pub queued_on : (w : State T) (inserted taken : List (Insertion T)) → IsQueued w n port k inserted taken → (e : Event T) → IsAllowed times p w e → is_at_port n port k source e ≡ false → IsQueued (next_state times p w e) n port k inserted taken
  queued_on w inserted taken q e a d = record { later = q.later; all = q.all; queued = ap (map (λ (b : Bundle T). b.updates)) (same_queue w e a d) ∙ q.queued }

-- A cut has one bundle for each place

queue_over : {T X : Type 0} (site : Site) (f : X → List (Bundle T)) (xs : List X) → queue site (flat_map f xs) ≡ flat_map (λ x. queue site (f x)) xs
queue_over site f [] = refl
queue_over site f (x ∷ xs) = queue_both site (f x) (flat_map f xs) ∙ ap (λ z. queue site (f x) ++ z) (queue_over site f xs)

over_passing : {X A : Type 0} (test : X → Bool) (f : X → List A) → ((x : X) → test x ≡ false → f x ≡ []) → (xs : List X) → flat_map f (filter test xs) ≡ flat_map f xs
over_passing test f h [] = refl
over_passing {X} {A} test f h (x ∷ xs) = step (test x) refl (over_passing test f h xs)
  where
    step : (b : Bool) → test x ≡ b → flat_map f (filter test xs) ≡ flat_map f xs → flat_map f (cond b (x ∷ filter test xs) (filter test xs)) ≡ f x ++ flat_map f xs
    step true e ih = ap (λ ys. f x ++ ys) ih
    step false e ih = ih ∙ ap (λ ys. ys ++ flat_map f xs) (sym (h x e))

abbrev edge_at : ℕ → ℕ → Edge
edge_at n port = record { reader = n; port = port }

over_ports : {A : Type 0} (f : Edge → List A) (ns : List ℕ) → flat_map f (flat_map ports_of ns) ≡ flat_map (λ n. f (edge_at n 0) ++ f (edge_at n 1)) ns
over_ports f [] = refl
over_ports f (n ∷ ns) =
    flat_map-append f (ports_of n) (flat_map ports_of ns)
    ∙ ap₂ (λ xs ys. xs ++ ys) (ap (λ xs. f (edge_at n 0) ++ xs) (append-nil (f (edge_at n 1)))) (over_ports f ns)

abbrev no_bundles : {T : Type 0} → List (Bundle T)
no_bundles = []

no_bundle : (T : Type 0) (b : Bool) → cond b (no_bundles {T = T}) [] ≡ no_bundles {T = T}
no_bundle T true = refl
no_bundle T false = refl

bundle_there : {T : Type 0} (times : Times T) (site other : Site) (us : List (Update T)) → queue site (bundled times other us) ≡ cond (same_place other site) (bundled times other us) []
bundle_there {T} times site other [] = sym (no_bundle T (same_place other site))
bundle_there times site other (u ∷ us) = append-nil (cond (same_place other site) (bundled times other (u ∷ us)) [])

module _ {T : Type 0} (times : Times T) (p : Dataflow) (g : Emission T) (site : Site) (reads : source_of p site.node site.port ≡ Some g.node) where
  abbrev mine : List (Bundle T)
  mine = bundled times site (share p site g)

  one_place : (other : Site) → queue site (bundled times other (share p other g)) ≡ cond (same_place other site) mine []
  one_place other = bundle_there times site other (share p other g) ∙ step (same_place other site) refl
    where
      step : (b : Bool) → same_place other site ≡ b → cond b (bundled times other (share p other g)) [] ≡ cond b mine []
      step true e = ap (λ z. bundled times z (share p z g)) (place_same other site e)
      step false e = refl

  abbrev from_edge : Edge → List (Bundle T)
  from_edge edge = queue site (cut_along times p g edge)

  -- along one edge a place gets its bundle if the edge ends there, and else nothing
  edge_some : site.worker < p.workers → (edge : Edge) → from_edge edge ≡ cond (eqb edge.reader site.node && eqb edge.port site.port) mine []
  edge_some l edge =
      queue_over site (λ k. bundled times (place edge.reader edge.port k) (share p (place edge.reader edge.port k) g)) (numbers_below p.workers)
      ∙ (one_below p.workers site.worker (λ k. queue site (bundled times (place edge.reader edge.port k) (share p (place edge.reader edge.port k) g)))
      (λ k d. one_place (place edge.reader edge.port k) ∙ ap (λ b. cond b mine []) (other (eqb edge.reader site.node) (eqb edge.port site.port) (eqb k site.worker) (ne_eqb k site.worker d))) l
      ∙ (one_place (place edge.reader edge.port site.worker) ∙ ap (λ b. cond b mine []) (same (eqb edge.reader site.node) (eqb edge.port site.port) (eqb site.worker site.worker) (eq-eqb site.worker site.worker refl))))
    where
      other : (a b c : Bool) → c ≡ false → (a && (b && c)) ≡ false
      other true true c e = e
      other true false c e = refl
      other false b c e = refl

      same : (a b c : Bool) → c ≡ true → (a && (b && c)) ≡ (a && b)
      same true true c e = e
      same true false c e = refl
      same false b c e = refl

  -- an edge that does not lead from the giver's node does not end at the place
  edge_none : site.worker < p.workers → (edge : Edge) → leads_from p.nodes g.node edge ≡ false → from_edge edge ≡ []
  edge_none l edge h = edge_some l edge ∙ step (eqb edge.reader site.node && eqb edge.port site.port) refl
    where
      step : (b : Bool) → (eqb edge.reader site.node && eqb edge.port site.port) ≡ b → cond b mine [] ≡ []
      step false e = refl
      step true e =
          let parts = and_parts (eqb edge.reader site.node) (eqb edge.port site.port) e in
          let here : source_of p edge.reader edge.port ≡ Some g.node = (λ i. source_of p (eqb-true edge.reader site.node parts.0 i) (eqb-true edge.port site.port parts.1 i)) ∙ reads in
          absurd (false≢true (sym h ∙ (ap (is_number g.node) here ∙ eq-eqb g.node g.node refl)))

  cut_queue : site.worker < p.workers → site.node < length p.nodes → site.port < 2 → queue site (cut times p g) ≡ mine
  cut_queue l m few =
      queue_over site (cut_along times p g) (edges_from p.nodes g.node)
      ∙ (over_passing (leads_from p.nodes g.node) from_edge (edge_none l) (flat_map ports_of (numbers_below (length p.nodes)))
      ∙ (over_ports from_edge (numbers_below (length p.nodes))
      ∙ (one_below (length p.nodes) site.node (λ n. from_edge (edge_at n 0) ++ from_edge (edge_at n 1)) (λ n d. rw (edge_some l (edge_at n 0), edge_some l (edge_at n 1), ne_eqb n site.node d) refl) m
      ∙ (rw (edge_some l (edge_at site.node 0), edge_some l (edge_at site.node 1), eq-eqb site.node site.node refl) (ends site.port mine few)))))
    where
      ends : (port : ℕ) (bs : List (Bundle T)) → port < 2 → cond (eqb 0 port) bs [] ++ cond (eqb 1 port) bs [] ≡ bs
      ends zero bs k = append-nil bs
      ends (suc zero) bs k = refl
      ends (suc (suc port)) bs k = absurd (omega arith)

module _ {T : Type 0} (times : Times T) (p : Dataflow) (n port : ℕ) (g : Emission T) (reads : source_of p n port ≡ Some g.node) (stays : arranged_by (node_of p n) ≡ None)
    (worker : g.worker < p.workers) (within : n < length p.nodes) (few : port < 2) where
  -- the law for batches that are given and cut
  pub queued_more : (w : State T) (ts : List T) (upper : List T) (inserted taken : List (Insertion T)) → g.updates ≢ [] → IsQueued w n port g.worker inserted taken
      → IsQueued (give_state times p w g ts (cut times p g)) n port g.worker (record { upper = upper; updates = g.updates } ∷ inserted) taken
  queued_more w ts upper inserted taken some q =
      let i : Insertion T = record { upper = upper; updates = g.updates } in
      let site = place n port g.worker in
      let updates_of : List (Bundle T) → List (List (Update T)) = map (λ (b : Bundle T). b.updates) in
      let here : share p site g ≡ g.updates =
      share_here times p n port g.worker g.node reads stays g
      ∙ (λ i. cond (eq-eqb g.node g.node refl i) (cond (eq-eqb g.worker g.worker refl i) g.updates []) []) in
      record {
        later = q.later ++ i ∷ [];
        all = ap (λ is. i ∷ is) q.all ∙ sym (on_top_more q.later taken i);
        queued =
            ap updates_of (queue_both site w.in_flight (cut times p g))
            ∙ (map-append (λ (b : Bundle T). b.updates) (queue site w.in_flight) (queue site (cut times p g))
            ∙ ((λ x. q.queued x ++ (ap updates_of (cut_queue times p g site reads worker within few ∙ ap (bundled times site) here) ∙ whole g.updates some) x)
            ∙ sym (map-append (λ (j : Insertion T). j.updates) q.later (i ∷ []))));
      }
    where
      whole : (us : List (Update T)) → us ≢ [] → map (λ (b : Bundle T). b.updates) (bundled times (place n port g.worker) us) ≡ us ∷ []
      whole [] s = absurd (s refl)
      whole (u ∷ us) s = refl
