-- No frontier goes back. Each event adds only times that are beyond what was outstanding at the
-- nodes from which they come. The lemma `onward` proves this once, for any choice of what a
-- frontier counts; the frontiers of nodes, inputs and ports follow.
use Rattle.std.proofs.Common.{◌≡◌, ℕ, Bool, true, false, cond, not, ◌&&◌, List, [], ◌∷◌, ◌++◌, sym, refl, ap, ◌∙◌, subst, Option, Some, None, eqb, arith, ◌⊎◌, inl, inr, ⊎_elim}
use Rattle.std.specs.List.{flat_map, filter, slice_get}
use Rattle.std.proofs.lemmas.Bool.{and_parts, and_from, or_parts, or_from, or_right, or_cases, eqb-true, ne_eqb, false≢true}
use Rattle.std.proofs.lemmas.List.Concat.{flat_map-append}
use Rattle.std.proofs.lemmas.List.Folds.{list_any-append}
use Rattle.lattice.specs.Times.{Times}
use Rattle.lattice.specs.Order.{PartialOrderLaws}
use Rattle.lattice.specs.Frontiers.{is_beyond, all_beyond}
use Rattle.plan.specs.Nodes.{is_input}
use Rattle.progress.specs.declared.place.Place.{Place}
use Rattle.progress.specs.declared.place.Place.TheVariants.{Port, Held, Input}
use Rattle.progress.specs.Tallies.{comes_from, is_port_upstream}
use Rattle.histories.proofs.HistoryLemmas.StampLemmas.{beyond_passed}
use Rattle.histories.specs.declared.event.Site.{Site}
use Rattle.histories.specs.declared.event.Bundle.{Bundle}
use Rattle.histories.specs.declared.event.Fed.{Fed}
use Rattle.histories.specs.declared.event.Emission.{Emission}
use Rattle.histories.specs.declared.event.HeldTime.{HeldTime}
use Rattle.histories.specs.declared.event.OpenTime.{OpenTime}
use Rattle.histories.specs.declared.event.Event.{Event}
use Rattle.histories.specs.declared.event.Event.TheVariants.{Feed, Advance, Allow, Look, Take, TakeHeld, Give}
use Rattle.histories.specs.Histories.Dataflows.{Dataflow, IsDataflow, node_of, source_of, upstream, route}
use Rattle.histories.specs.Histories.States.{State, place, update_times, queue, held_at, open_at}
use Rattle.histories.specs.Histories.Shares.{home}
use Rattle.histories.specs.Histories.Outstanding.{stamps, frontier, strictly_upstream, input_frontier, port_frontier}
use Rattle.histories.specs.Histories.{alone, without, is_held_by, held_entries, open_entries, take_state, give_state, next_state, IsFeed, IsGive, IsAllowed}
use Rattle.plan.proofs.SortLemmas.{no_source}
use Rattle.antichain.proofs.Lists.{Among, all_at}
use Rattle.histories.proofs.HistoryLemmas.OutstandingLemmas.{held_where, open_where, logged_times, at_site, at_held, at_input, beyond_frontier, beyond_input_frontier, beyond_port_frontier}
use Rattle.histories.proofs.HistoryLemmas.FlowLemmas.{queued, among_left}
use Rattle.histories.proofs.HistoryLemmas.PlaceLemmas.{sent_from}
use Rattle.plan.proofs.PlanLemmas.{source_smaller}
use Rattle.plan.proofs.StandLemmas.{above_itself, above_from_source, above_earlier, above_transitive}

module _ {T : Type 0} (times : Times T) (o : PartialOrderLaws times) (t : T) where
  -- the fixed time of this module is not beyond these times
  abbrev pub IsPassed : List T → Type 0
  IsPassed F = is_beyond times F t ≡ false

  -- if two lists together have passed the time, each has
  pub passed_parts : (F G : List T) → IsPassed (F ++ G) → IsPassed F × IsPassed G
  passed_parts F G h = or_parts (is_beyond times F t) (is_beyond times G t) (sym (list_any-append (λ f. times.below f t) F G) ∙ h)

  -- if each of two lists has passed the time, both together have
  pub passed_both : (F G : List T) → IsPassed F → IsPassed G → IsPassed (F ++ G)
  passed_both F G f g = list_any-append (λ x. times.below x t) F G ∙ or_from (is_beyond times F t) (is_beyond times G t) f g

  passed_onward : (F G : List T) → all_beyond times F G ≡ true → IsPassed F → IsPassed G
  passed_onward F G a f = beyond_passed times o F G t a f

  -- if all parts of a list have passed the time, so have those that a test keeps
  passed_some : {X : Type 0} (part : X → List T) (keep : X → Bool) (xs : List X) → IsPassed (flat_map part xs) → IsPassed (flat_map part (filter keep xs))
  passed_some part keep [] h = h
  passed_some {X} part keep (x ∷ xs) h = let g = passed_parts (part x) (flat_map part xs) h in step (keep x) g.0 (passed_some part keep xs g.1)
    where
      step : (b : Bool) → IsPassed (part x) → IsPassed (flat_map part (filter keep xs)) → IsPassed (flat_map part (cond b (x ∷ filter keep xs) (filter keep xs)))
      step true f g = passed_both (part x) (flat_map part (filter keep xs)) f g
      step false f g = g

  -- if each part that counts has passed the time, so has the whole
  pub passed_all : {X : Type 0} (test : X → Bool) (part : X → List T) (xs : List X) → ((x : X) → Among x xs → test x ≡ true → IsPassed (part x)) → IsPassed (flat_map (λ x. cond (test x) (part x) []) xs)
  passed_all test part [] h = refl
  passed_all {X} test part (y ∷ xs) h = passed_both (cond (test y) (part y) []) (flat_map (λ x. cond (test x) (part x) []) xs) (head (test y) refl) (passed_all test part xs (λ x m. h x (inr m)))
    where
      head : (c : Bool) → test y ≡ c → IsPassed (cond c (part y) [])
      head false e = refl
      head true e = h y (inl refl) e

  -- if the whole has passed the time, so has each part that counts
  pub passed_one : {X : Type 0} (test : X → Bool) (part : X → List T) (xs : List X) → IsPassed (flat_map (λ x. cond (test x) (part x) []) xs) → (x : X) → Among x xs → test x ≡ true → IsPassed (part x)
  passed_one test part [] h x m a = absurd m
  passed_one {X} test part (y ∷ xs) h x m a =
      let g = passed_parts (cond (test y) (part y) []) (flat_map (λ x. cond (test x) (part x) []) xs) h in
      ⊎_elim
      (λ e. subst (λ c. IsPassed (cond c (part x) [])) a (subst (λ (z : X). IsPassed (cond (test z) (part z) [])) e g.0))
      (λ n. passed_one test part xs g.1 x n a)
      m

  module _ (test : ℕ → Bool) where
    -- if what counts at the nodes that pass a test has passed the time, so has what counts at one
    -- of them
    passed_edge : (i : ℕ) → test i ≡ true → (es : List (OpenTime T)) → IsPassed (open_where test es) → IsPassed (open_at i es)
    passed_edge i a [] h = h
    passed_edge i a (e ∷ es) h =
        let g = passed_parts (cond (test e.input) (e.time ∷ []) []) (open_where test es) h in
        passed_both (cond (eqb e.input i) (e.time ∷ []) []) (open_at i es) (head (eqb e.input i) refl g.0) (passed_edge i a es g.1)
      where
        head : (c : Bool) → eqb e.input i ≡ c → IsPassed (cond (test e.input) (e.time ∷ []) []) → IsPassed (cond c (e.time ∷ []) [])
        head false k x = refl
        head true k x = subst (λ b. IsPassed (cond b (e.time ∷ []) [])) (ap test (eqb-true e.input i k) ∙ a) x

    passed_held : (n k : ℕ) → test n ≡ true → (ms : List (HeldTime T)) → IsPassed (held_where test ms) → IsPassed (held_at n k ms)
    passed_held n k a [] h = h
    passed_held n k a (m ∷ ms) h =
        let g = passed_parts (cond (test m.node) (m.time ∷ []) []) (held_where test ms) h in
        passed_both (cond (eqb m.node n && eqb m.worker k) (m.time ∷ []) []) (held_at n k ms) (head (eqb m.node n && eqb m.worker k) refl g.0) (passed_held n k a ms g.1)
      where
        head : (c : Bool) → (eqb m.node n && eqb m.worker k) ≡ c → IsPassed (cond (test m.node) (m.time ∷ []) []) → IsPassed (cond c (m.time ∷ []) [])
        head false f x = refl
        head true f x = subst (λ b. IsPassed (cond b (m.time ∷ []) [])) (ap test (eqb-true m.node n (and_parts (eqb m.node n) (eqb m.worker k) f).0) ∙ a) x

    passed_marked : (n k : ℕ) (ts : List T) → (test n ≡ true → IsPassed ts) → IsPassed (held_where test (held_entries n k ts))
    passed_marked n k ts h = step (test n) refl
      where
        on : (us : List T) → test n ≡ true → held_where test (held_entries n k us) ≡ us
        on [] e = refl
        on (u ∷ us) e = rw e (ap (λ z. u ∷ z) (on us e))

        off : (us : List T) → test n ≡ false → held_where test (held_entries n k us) ≡ []
        off [] e = refl
        off (u ∷ us) e = rw e (off us e)

        step : (b : Bool) → test n ≡ b → IsPassed (held_where test (held_entries n k ts))
        step true e = subst IsPassed (sym (on ts e)) (h e)
        step false e = subst IsPassed (sym (off ts e)) refl

    passed_edged : (n : ℕ) (ts : List T) → (test n ≡ true → IsPassed ts) → IsPassed (open_where test (open_entries n ts))
    passed_edged n ts h = step (test n) refl
      where
        on : (us : List T) → test n ≡ true → open_where test (open_entries n us) ≡ us
        on [] e = refl
        on (u ∷ us) e = rw e (ap (λ z. u ∷ z) (on us e))

        off : (us : List T) → test n ≡ false → open_where test (open_entries n us) ≡ []
        off [] e = refl
        off (u ∷ us) e = rw e (off us e)

        step : (b : Bool) → test n ≡ b → IsPassed (open_where test (open_entries n ts))
        step true e = subst IsPassed (sym (on ts e)) (h e)
        step false e = subst IsPassed (sym (off ts e)) refl

  module _ (test : Site → Bool) where
    -- bundles that have passed the time still have after a take, and so has the bundle that was
    -- taken
    passed_without : (site : Site) (qs : List (Bundle T)) (j : ℕ) → IsPassed (stamps test qs) → IsPassed (stamps test (without site qs j))
    passed_without site qs j h = passed_all (λ b. test b.place) (λ b. b.stamp) (without site qs j) (λ b m a. passed_one (λ b. test b.place) (λ b. b.stamp) qs h b (among_left site qs j b m) a)

    passed_taken : (qs : List (Bundle T)) (j : ℕ) (b : Bundle T) → slice_get (queue b.place qs) j ≡ Some b → test b.place ≡ true → IsPassed (stamps test qs) → IsPassed b.stamp
    passed_taken qs j b e a h = passed_one (λ b. test b.place) (λ b. b.stamp) qs h b (queued b.place qs j b e).0 a

  -- What a frontier counts: bundles at some places, times held at some nodes, the frontiers of some
  -- inputs. The choice is free, but with a place it counts the place's source, with a place that is
  -- fed its input, and with a node at which it counts held times all of the node's places.
  module _ (p : Dataflow) (q : IsDataflow p) (there : Site → Bool) (holds opens : ℕ → Bool)
      (of_sources : (site : Site) → there site ≡ true → (s : ℕ) → source_of p site.node site.port ≡ Some s → holds s ≡ true)
      (of_inputs : (i k : ℕ) → is_input (node_of p i) ≡ true → there (place i 0 k) ≡ true → opens i ≡ true)
      (of_places : (site : Site) → holds site.node ≡ true → there site ≡ true) where
    -- each of the three logs has passed the time, as far as it counts
    abbrev pub IsCountPassed : State T → Type 0
    IsCountPassed w = IsPassed (stamps there w.in_flight) × IsPassed (held_where holds w.held) × IsPassed (open_where opens w.open_times)

    onward_feed : (w : State T) (c : ℕ) (f : Fed T) → IsFeed times p w c f → IsCountPassed w → IsPassed (stamps there (alone p f ∷ []))
    onward_feed w c f a h = passed_both (cond (there (home p f)) (f.update.time ∷ []) []) [] (step (there (home p f)) refl) refl
      where
        step : (b : Bool) → there (home p f) ≡ b → IsPassed (cond b (f.update.time ∷ []) [])
        step false e = refl
        step true e = passed_onward (open_at f.input w.open_times) (f.update.time ∷ []) (and_from (is_beyond times (open_at f.input w.open_times) f.update.time) true a.not_passed refl) (passed_edge opens f.input (of_inputs f.input (route p f.update.row) a.input.1 e) w.open_times h.2)

    onward_took : (w : State T) (j : ℕ) (b : Bundle T) → slice_get (queue b.place w.in_flight) j ≡ Some b → IsCountPassed w → IsCountPassed (take_state times p w j b)
    onward_took w j b e h = (
      passed_without there b.place w.in_flight j h.0,
      subst IsPassed (sym (flat_map-append (λ (m : HeldTime T). cond (holds m.node) (m.time ∷ []) []) w.held (held_entries b.place.node b.place.worker b.stamp)))
          (passed_both (held_where holds w.held) (held_where holds (held_entries b.place.node b.place.worker b.stamp)) h.1 (passed_marked holds b.place.node b.place.worker b.stamp (λ a. passed_taken there w.in_flight j b e (of_places b.place a) h.0))),
      h.2,
    )

    -- what is sent comes from the sources of its places, and is beyond what was held there
    onward_sent : (w : State T) (g : Emission T) (held : List T) (sent : List (Bundle T)) → IsGive times p w g held sent → IsCountPassed w → IsPassed (stamps there sent)
    onward_sent w g held sent a h = passed_all (λ b. there b.place) (λ b. b.stamp) sent (λ b m e.
        let before = held_at g.node g.worker w.held in
        let s = and_parts (all_beyond times before b.stamp) (all_beyond times b.stamp (update_times b.updates)) (all_at (λ b. all_beyond times before b.stamp && all_beyond times b.stamp (update_times b.updates)) sent b a.stamped m) in
        passed_onward before b.stamp s.0 (passed_held holds g.node g.worker (of_sources b.place e g.node (sent_from p q g sent a.whole a.filled b m)) w.held h.1))

    onward_gave : (w : State T) (g : Emission T) (held : List T) (sent : List (Bundle T)) → IsGive times p w g held sent → IsCountPassed w → IsCountPassed (give_state times p w g held sent)
    onward_gave w g held sent a h = (
      subst IsPassed (sym (flat_map-append (λ (q : Bundle T). cond (there q.place) q.stamp []) w.in_flight sent)) (passed_both (stamps there w.in_flight) (stamps there sent) h.0 (onward_sent w g held sent a h)),
      subst IsPassed (sym (flat_map-append (λ (m : HeldTime T). cond (holds m.node) (m.time ∷ []) []) (held_entries g.node g.worker held) (filter (λ m. not (is_held_by g.node g.worker m)) w.held)))
          (passed_both (held_where holds (held_entries g.node g.worker held)) (held_where holds (filter (λ m. not (is_held_by g.node g.worker m)) w.held)) (passed_marked holds g.node g.worker held later) (passed_some (λ (m : HeldTime T). cond (holds m.node) (m.time ∷ []) []) (λ m. not (is_held_by g.node g.worker m)) w.held h.1)),
      h.2,
    )
      where
        later : holds g.node ≡ true → IsPassed held
        later f = (passed_parts (update_times g.updates) held (passed_onward (held_at g.node g.worker w.held) (update_times g.updates ++ held) a.onward (passed_held holds g.node g.worker f w.held h.1))).1

    -- after each event, what counts has passed the time if it had before; every lemma of frontiers
    -- uses this
    pub onward : (w : State T) (e : Event T) → IsAllowed times p w e → IsCountPassed w → IsCountPassed (next_state times p w e)
    onward w (Feed c f) a h = (
      subst IsPassed (sym (flat_map-append (λ (q : Bundle T). cond (there q.place) q.stamp []) w.in_flight (alone p f ∷ []))) (passed_both (stamps there w.in_flight) (stamps there (alone p f ∷ [])) h.0 (onward_feed w c f a h)),
      h.1,
      h.2,
    )
    onward w (Advance c i ts) a h = (
      h.0,
      h.1,
      subst IsPassed (sym (flat_map-append (λ (e : OpenTime T). cond (opens e.input) (e.time ∷ []) []) (open_entries i ts) (filter (λ e. not (eqb e.input i)) w.open_times)))
          (passed_both (open_where opens (open_entries i ts)) (open_where opens (filter (λ e. not (eqb e.input i)) w.open_times)) (passed_edged opens i ts (λ f. passed_onward (open_at i w.open_times) ts a.onward (passed_edge opens i f w.open_times h.2))) (passed_some (λ (e : OpenTime T). cond (opens e.input) (e.time ∷ []) []) (λ e. not (eqb e.input i)) w.open_times h.2)),
    )
    onward w (Allow c v ts) a h = h
    onward w (Look c) a h = h
    onward w (Take j b) a h = onward_took w j b a.waits h
    onward w (TakeHeld m k) a h = h
    onward w (Give g held sent) a h = onward_gave w g held sent a h

  module _ (there : Site → Bool) (holds opens : ℕ → Bool) (w : State T) where
    -- if all that counts has passed the time, so has each of the three logs
    passed_logs : IsPassed (logged_times w there holds opens) → IsPassed (stamps there w.in_flight) × IsPassed (held_where holds w.held) × IsPassed (open_where opens w.open_times)
    passed_logs h =
        let a = passed_parts (stamps there w.in_flight) (held_where holds w.held ++ open_where opens w.open_times) h in
        let b = passed_parts (held_where holds w.held) (open_where opens w.open_times) a.1 in
        (a.0, b.0, b.1)

    -- if each of the three logs has passed the time, so has all that counts
    logs_passed : IsPassed (stamps there w.in_flight) × IsPassed (held_where holds w.held) × IsPassed (open_where opens w.open_times) → IsPassed (logged_times w there holds opens)
    logs_passed h = passed_both (stamps there w.in_flight) (held_where holds w.held ++ open_where opens w.open_times) h.0 (passed_both (held_where holds w.held) (open_where opens w.open_times) h.1 h.2)

  module _ (p : Dataflow) (q : IsDataflow p) (n : ℕ) where
    -- the source of a node that is above is above too
    upward : (site : Site) → upstream p n site.node ≡ true → (s : ℕ) → source_of p site.node site.port ≡ Some s → upstream p n s ≡ true
    upward site a s e = above_transitive p.nodes q.plan s site.node n (above_from_source p.nodes q.plan s site.node site.port s e (above_itself p.nodes q.plan s)) a

    source_strict : (site : Site) → upstream p n site.node ≡ true → (s : ℕ) → source_of p site.node site.port ≡ Some s → strictly_upstream p n s ≡ true
    source_strict site e s f =
        let less = source_smaller p.nodes q.plan site.node site.port s f in
        let le = above_earlier p.nodes q.plan site.node n e in
        and_from (upstream p n s) (not (eqb s n)) (upward site e s f) (ap not (ne_eqb s n (λ x. absurd (omega arith))))

    abbrev site_above : Site → Bool
    site_above site = upstream p n site.node

    -- a frontier has passed after each event what it had passed before
    pub frontier_onward : (w : State T) (e : Event T) → IsAllowed times p w e → IsPassed (frontier times p w n) → IsPassed (frontier times p (next_state times p w e) n)
    frontier_onward w e a h =
        beyond_frontier p (next_state times p w e) n times o t
        ∙ logs_passed site_above (upstream p n) (upstream p n) (next_state times p w e)
        (onward p q site_above (upstream p n) (upstream p n) upward (λ i k b x. x) (λ site x. x) w e a
        (passed_logs site_above (upstream p n) (upstream p n) w (sym (beyond_frontier p w n times o t) ∙ h)))

    -- if an input frontier has passed the time, each of the three logs has
    in_passed : (w : State T) → IsPassed (input_frontier times p w n) → IsPassed (stamps site_above w.in_flight) × IsPassed (held_where (strictly_upstream p n) w.held) × IsPassed (open_where (upstream p n) w.open_times)
    in_passed w h = passed_logs site_above (strictly_upstream p n) (upstream p n) w (sym (beyond_input_frontier p w n times o t) ∙ h)

    -- an input frontier has passed after each event what it had passed before
    pub input_onward : (w : State T) (e : Event T) → IsAllowed times p w e → IsPassed (input_frontier times p w n) → IsPassed (input_frontier times p (next_state times p w e) n)
    input_onward w e a h =
        beyond_input_frontier p (next_state times p w e) n times o t
        ∙ logs_passed site_above (strictly_upstream p n) (upstream p n) (next_state times p w e)
        (onward p q site_above (strictly_upstream p n) (upstream p n) source_strict (λ i k b x. x) (λ site x. (and_parts (upstream p n site.node) (not (eqb site.node n)) x).0) w e a (in_passed w h))

    -- a bundle that is taken at a node is beyond what the node's input frontier had passed
    pub taken_later : (w : State T) (j : ℕ) (b : Bundle T) → slice_get (queue b.place w.in_flight) j ≡ Some b → b.place.node ≡ n → IsPassed (input_frontier times p w n) → IsPassed b.stamp
    taken_later w j b e i h = passed_taken site_above w.in_flight j b e (ap (upstream p n) i ∙ above_itself p.nodes q.plan n) (in_passed w h).0

  module _ (p : Dataflow) (q : IsDataflow p) (n port : ℕ) where
    -- what the frontier of the port counts
    abbrev counts : Place → Bool
    counts = is_port_upstream p.nodes n port

    abbrev is_at_port : Site → Bool
    is_at_port site = eqb site.node n && eqb site.port port

    -- what comes from a source or above it comes from that node's sources too
    above_source : (from : Option ℕ) (site : Site) (s : ℕ) → source_of p site.node site.port ≡ Some s → comes_from p.nodes n from (Port site.node site.port) ≡ true → comes_from p.nodes n from (Held s) ≡ true
    above_source None site s f x = absurd (false≢true x)
    above_source (Some m) site s f x = upward p q m site x s f

    port_sources : (site : Site) → at_site counts site ≡ true → (s : ℕ) → source_of p site.node site.port ≡ Some s → at_held counts s ≡ true
    port_sources site x s f =
        ⊎_elim
        (λ y.
        let v = and_parts (eqb site.node n) (eqb site.port port) y in
        let g : source_of p n port ≡ Some s = subst (λ b. source_of p n b ≡ Some s) (eqb-true site.port port v.1) (subst (λ a. source_of p a site.port ≡ Some s) (eqb-true site.node n v.0) f) in
        ap (λ from. comes_from p.nodes n from (Held s)) g ∙ above_itself p.nodes q.plan s)
        (λ y. above_source (source_of p n port) site s f y)
        (or_cases (is_at_port site) (comes_from p.nodes n (source_of p n port) (Port site.node site.port)) x)

    -- a change is fed to an input, which has no source but its own frontier
    port_inputs : (i k : ℕ) → is_input (node_of p i) ≡ true → at_site counts (place i 0 k) ≡ true → at_input counts i ≡ true
    port_inputs i k b x = step (source_of p n port) refl (or_cases (eqb i n && eqb 0 port) (comes_from p.nodes n (source_of p n port) (Port i 0)) x)
      where
        step : (from : Option ℕ) → source_of p n port ≡ from → ((eqb i n && eqb 0 port) ≡ true) ⊎ (comes_from p.nodes n from (Port i 0) ≡ true) → comes_from p.nodes n from (Input i) ≡ true
        step None f (inl y) = (and_parts (eqb i n) (eqb 0 port) y).0
        step None f (inr y) = absurd (false≢true y)
        step (Some s) f (inl y) = absurd (no_source (node_of p n) port s f (subst (λ m. is_input (node_of p m) ≡ true) (eqb-true i n (and_parts (eqb i n) (eqb 0 port) y).0) b))
        step (Some s) f (inr y) = y

    port_places : (site : Site) → at_held counts site.node ≡ true → at_site counts site ≡ true
    port_places site x = or_right (is_at_port site) (comes_from p.nodes n (source_of p n port) (Port site.node site.port)) (step (source_of p n port) x)
      where
        step : (from : Option ℕ) → comes_from p.nodes n from (Held site.node) ≡ true → comes_from p.nodes n from (Port site.node site.port) ≡ true
        step None y = absurd (false≢true y)
        step (Some s) y = y

    -- the frontier of a port has passed after each event what it had passed before
    pub port_onward : (w : State T) (e : Event T) → IsAllowed times p w e → IsPassed (port_frontier times p w n port) → IsPassed (port_frontier times p (next_state times p w e) n port)
    port_onward w e a h =
        beyond_port_frontier p (next_state times p w e) n times o t port
        ∙ logs_passed (at_site counts) (at_held counts) (at_input counts) (next_state times p w e)
        (onward p q (at_site counts) (at_held counts) (at_input counts) port_sources port_inputs port_places w e a
        (passed_logs (at_site counts) (at_held counts) (at_input counts) w (sym (beyond_port_frontier p w n times o t port) ∙ h)))
