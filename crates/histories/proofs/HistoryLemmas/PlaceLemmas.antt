-- Everything that waits is at a place that exists. So a worker that goes through its places misses
-- nothing.
use Rattle.std.proofs.Common.{◌≡◌, ◌≢◌, ℕ, zero, suc, ◌<◌, Bool, true, false, cond, not, ◌&&◌, List, [], ◌∷◌, ◌++◌, map, take, length, sym, refl, ap, ◌∙◌, subst, Option, Some, None, eqb, arith, IsTrue, inl, inr, ⊎_elim}
use Rattle.std.specs.List.{flat_map, filter, slice_get, list_all}
use Rattle.std.proofs.Math.IntN.{ℤ}
use Rattle.update.specs.Bags.{total_by}
use Rattle.std.proofs.lemmas.Bool.{and_parts, and_from, eqb-true, eq-eqb, false≢true}
use Rattle.std.proofs.lemmas.Option.{same_Some}
use Rattle.antichain.proofs.Lists.{Among, among_contains, contains_among, filter_has}
use Rattle.update.specs.declared.change.Update.{Update}
use Rattle.plan.specs.Ancestors.{numbers_below}
use Rattle.plan.specs.Edges.{numbers_where}
use Rattle.plan.specs.Nodes.{sources, arranged_by, node_at, is_input}
use Rattle.plan.proofs.PlanLemmas.{has_source}
use Rattle.progress.specs.declared.place.Place.TheVariants.{Port, Held, Input}
use Rattle.progress.specs.declared.counted.Counted.{Counted}
use Rattle.progress.specs.Tallies
use Rattle.progress.proofs.NumberLemmas.{number_below}
use Rattle.histories.specs.declared.event.Site.{Site}
use Rattle.histories.specs.declared.event.Bundle.{Bundle}
use Rattle.histories.specs.declared.event.Emission.{Emission}
use Rattle.histories.specs.declared.event.HeldTime.{HeldTime}
use Rattle.histories.specs.declared.event.OpenTime.{OpenTime}
use Rattle.histories.specs.declared.event.Event.{Event}
use Rattle.histories.specs.declared.event.Event.TheVariants.{Feed, Advance, Allow, Look, Take, TakeHeld, Give}
use Rattle.histories.specs.Histories.Dataflows.{Dataflow, IsDataflow, node_of, source_of, route}
use Rattle.histories.specs.Histories.States.{State, same_place, updates_at}
use Rattle.histories.specs.Histories.Shares.{part, share_from, share}
use Rattle.histories.specs.Histories.Outstanding.{items_in_flight, items_held, items_open, items_of}
use Rattle.histories.specs.Histories.{alone, with_at, is_held_by, held_entries, open_entries, give_state, next_state, IsInput, IsGive, IsAllowed, initial_state, state_after, IsLegal}
use Rattle.histories.specs.Histories.Promises.{IsPlace, IsInPlace}
use Rattle.histories.proofs.HistoryLemmas.ClaimLemmas.{routed}
use Rattle.histories.proofs.HistoryLemmas.FlowLemmas.{queued, among_left}
use Rattle.histories.proofs.HistoryLemmas.KeptLemmas.{no_totals}
use Rattle.lattice.specs.Times.{Times}

-- a property holds of each element
abbrev Each : {X : Type 0} → (X → Type 0) → List X → Type 0
Each {X} P xs = (x : X) → Among x xs → P x

each_both : {X : Type 0} (P : X → Type 0) (xs ys : List X) → Each P xs → Each P ys → Each P (xs ++ ys)
each_both P [] ys a b x m = b x m
each_both P (z ∷ xs) ys a b x m = ⊎_elim (λ e. a x (inl e)) (λ n. each_both P xs ys (λ y i. a y (inr i)) b x n) m

each_one : {X : Type 0} (P : X → Type 0) (x : X) → P x → Each P (x ∷ [])
each_one P x h y m = ⊎_elim (λ e. subst P e h) (λ n. absurd n) m

each_map : {X Y : Type 0} (P : Y → Type 0) (f : X → Y) (xs : List X) → ((x : X) → Among x xs → P (f x)) → Each P (map f xs)
each_map P f [] h y m = absurd m
each_map P f (x ∷ xs) h y m = ⊎_elim (λ e. subst P e (h x (inl refl))) (λ n. each_map P f xs (λ z i. h z (inr i)) y n) m

each_flat : {X Y : Type 0} (P : Y → Type 0) (f : X → List Y) (xs : List X) → ((x : X) → Among x xs → Each P (f x)) → Each P (flat_map f xs)
each_flat P f [] h = λ y m. absurd m
each_flat P f (x ∷ xs) h = each_both P (f x) (flat_map f xs) (h x (inl refl)) (each_flat P f xs (λ z i. h z (inr i)))

each_filter : {X : Type 0} (P : X → Type 0) (keep : X → Bool) (xs : List X) → Each P xs → Each P (filter keep xs)
each_filter P keep xs h x m = h x (filter_has keep xs x m).0

module _ {T : Type 0} where
  -- if a bundle that is not empty is among these, there are updates at its place
  pub there_some : (qs : List (Bundle T)) (b : Bundle T) → Among b qs → b.updates ≢ [] → updates_at b.place qs ≢ []
  there_some [] b m h e = absurd m
  there_some (q ∷ qs) b m h e =
      ⊎_elim
      (λ f. first (subst (λ z. cond (same_place z.place b.place) z.updates [] ++ updates_at b.place qs ≡ []) f e))
      (λ n. there_some qs b n h (no_second (cond (same_place q.place b.place) q.updates []) (updates_at b.place qs) e))
      m
    where
      self : same_place b.place b.place ≡ true
      self = and_from (eqb b.place.node b.place.node) (eqb b.place.port b.place.port && eqb b.place.worker b.place.worker) (eq-eqb b.place.node b.place.node refl) (and_from (eqb b.place.port b.place.port) (eqb b.place.worker b.place.worker) (eq-eqb b.place.port b.place.port refl) (eq-eqb b.place.worker b.place.worker refl))

      no_first : (xs ys : List (Update T)) → xs ++ ys ≡ [] → xs ≡ []
      no_first [] ys f = refl
      no_first (x ∷ xs) ys f = cc

      no_second : (xs ys : List (Update T)) → xs ++ ys ≡ [] → ys ≡ []
      no_second [] ys f = f
      no_second (x ∷ xs) ys f = cc

      first : cond (same_place b.place b.place) b.updates [] ++ updates_at b.place qs ≡ [] → ⊥
      first f = h (no_first b.updates (updates_at b.place qs) (subst (λ c. cond c b.updates [] ++ updates_at b.place qs ≡ []) self f))

filled_some : {T : Type 0} (qs : List (Bundle T)) → IsTrue (list_all (λ b. not (eqb (length b.updates) 0)) qs) → Each (λ (b : Bundle T). b.updates ≢ []) qs
filled_some [] h b m = absurd m
filled_some (q ∷ qs) h b m =
    let g = and_parts (not (eqb (length q.updates) 0)) (list_all (λ b. not (eqb (length b.updates) 0)) qs) h in
    ⊎_elim (λ e. subst (λ z. z.updates ≢ []) e (λ f. false≢true (subst (λ us. not (eqb (length us) 0) ≡ true) f g.0))) (λ n. filled_some qs g.1 b n) m

hand_with : (p : Dataflow) (f : ℕ → Option ℕ) (i : ℕ) (x : Option ℕ) → ((k n : ℕ) → f k ≡ Some n → (n < length p.nodes) × (k < p.workers)) → ((n : ℕ) → x ≡ Some n → (n < length p.nodes) × (i < p.workers)) → (k n : ℕ) → with_at f i x k ≡ Some n → (n < length p.nodes) × (k < p.workers)
hand_with p f i x h y k n e = step (eqb k i) refl e
  where
    step : (b : Bool) → eqb k i ≡ b → cond b x (f k) ≡ Some n → (n < length p.nodes) × (k < p.workers)
    step true g z = let r = y n z in (r.0, subst (λ j. j < p.workers) (sym (eqb-true k i g)) r.1)
    step false g z = h k n z

-- If a place has a share of an emission, the place exists.
module _ {T : Type 0} (p : Dataflow) (q : IsDataflow p) where
  -- a place with a share exists
  pub shared : (site : Site) (g : Emission T) → g.worker < p.workers → share p site g ≢ [] → IsPlace p site
  shared site g l h = step (source_of p site.node site.port) refl (arranged_by (node_of p site.node)) h
    where
      within : (xs : List ℕ) (i s : ℕ) → slice_get xs i ≡ Some s → i < length xs
      within [] i s e = cc
      within (x ∷ xs) zero s e = omega arith
      within (x ∷ xs) (suc i) s e = let r = within xs i s e in omega arith

      to_worker : (c : Option ℕ) (us : List (Update T)) → part p c g.worker site.worker us ≢ [] → site.worker < p.workers
      to_worker None us k = one (eqb g.worker site.worker) refl k
        where
          one : (b : Bool) → eqb g.worker site.worker ≡ b → cond b us [] ≢ [] → site.worker < p.workers
          one true e k = subst (λ z. z < p.workers) (eqb-true g.worker site.worker e) l
          one false e k = absurd (k refl)
      to_worker (Some c) [] k = absurd (k refl)
      to_worker (Some c) (u ∷ us) k = one (eqb (route p (take c u.row)) site.worker) refl k (to_worker (Some c) us)
        where
          one : (b : Bool) → eqb (route p (take c u.row)) site.worker ≡ b → cond b (u ∷ part p (Some c) g.worker site.worker us) (part p (Some c) g.worker site.worker us) ≢ [] → (part p (Some c) g.worker site.worker us ≢ [] → site.worker < p.workers) → site.worker < p.workers
          one true e k ih = subst (λ z. z < p.workers) (eqb-true (route p (take c u.row)) site.worker e) (routed p q (take c u.row))
          one false e k ih = ih k

      step : (x : Option ℕ) → source_of p site.node site.port ≡ x → (c : Option ℕ) → share_from p x c site.worker g ≢ [] → IsPlace p site
      step None e c k = absurd (k refl)
      step (Some s) e c k = one (eqb g.node s) k
        where
          one : (b : Bool) → cond b (part p c g.worker site.worker g.updates) [] ≢ [] → IsPlace p site
          one true k = record { node = has_source p.nodes site.node site.port s e; port = inr (within (sources (node_of p site.node)) site.port s e); worker = to_worker c g.updates k }
          one false k = absurd (k refl)

  -- a place with a share reads the giver's node
  shared_from : (site : Site) (g : Emission T) → share p site g ≢ [] → source_of p site.node site.port ≡ Some g.node
  shared_from site g h = step (source_of p site.node site.port) refl (arranged_by (node_of p site.node)) h
    where
      step : (x : Option ℕ) → source_of p site.node site.port ≡ x → (c : Option ℕ) → share_from p x c site.worker g ≢ [] → source_of p site.node site.port ≡ Some g.node
      step None e c k = absurd (k refl)
      step (Some s) e c k = one (eqb g.node s) refl k
        where
          one : (b : Bool) → eqb g.node s ≡ b → cond b (part p c g.worker site.worker g.updates) [] ≢ [] → source_of p site.node site.port ≡ Some g.node
          one true f k = e ∙ ap (λ z. Some z) (sym (eqb-true g.node s f))
          one false f k = absurd (k refl)

  -- a sent bundle has a share of what was given, so its place reads the giver's node
  pub sent_some : (g : Emission T) (sent : List (Bundle T)) → ((site : Site) (f : Update T → ℤ) → total_by f (updates_at site sent) ≡ total_by f (share p site g)) → IsTrue (list_all (λ b. not (eqb (length b.updates) 0)) sent)
      → (b : Bundle T) → Among b sent → share p b.place g ≢ []
  sent_some g sent whole filled b m e = there_some sent b m (filled_some sent filled b m) (no_totals (updates_at b.place sent) (share p b.place g) (whole b.place) e)

  -- a sent bundle goes to a place that reads the giver's node
  pub sent_from : (g : Emission T) (sent : List (Bundle T)) → ((site : Site) (f : Update T → ℤ) → total_by f (updates_at site sent) ≡ total_by f (share p site g)) → IsTrue (list_all (λ b. not (eqb (length b.updates) 0)) sent)
      → (b : Bundle T) → Among b sent → source_of p b.place.node b.place.port ≡ Some g.node
  sent_from g sent whole filled b m = shared_from b.place g (sent_some g sent whole filled b m)

  abbrev IsBundle : Bundle T → Type 0
  IsBundle b = IsPlace p b.place × (b.updates ≢ [])

  abbrev IsHeld : HeldTime T → Type 0
  IsHeld m = (m.node < length p.nodes) × (m.worker < p.workers)

  abbrev IsOpen : OpenTime T → Type 0
  IsOpen o = IsInput p o.input

  -- everything that waits is at a place that exists, stated element by element
  record IsSited (w : State T) : Type 0 where
    bundles : Each IsBundle w.in_flight
    held : Each IsHeld w.held
    inputs : Each IsOpen w.open_times
    hand : (k n : ℕ) → w.hand k ≡ Some n → (n < length p.nodes) × (k < p.workers)

  module _ (times : Times T) where
    sited_gave : (w : State T) (g : Emission T) (ts : List T) (sent : List (Bundle T)) → IsGive times p w g ts sent → IsSited w → IsSited (give_state times p w g ts sent)
    sited_gave w g ts sent a s =
        let here = s.hand g.worker g.node a.in_hand in
        let some = filled_some sent a.filled in
        record {
          bundles = each_both IsBundle w.in_flight sent s.bundles (λ b m. (shared b.place g a.worker (sent_some g sent a.whole a.filled b m), some b m));
          held = each_both IsHeld (held_entries g.node g.worker ts) (filter (λ m. not (is_held_by g.node g.worker m)) w.held) (each_map IsHeld (λ t. record { node = g.node; worker = g.worker; time = t }) ts (λ t m. here)) (each_filter IsHeld (λ m. not (is_held_by g.node g.worker m)) w.held s.held);
          inputs = s.inputs;
          hand = hand_with p w.hand g.worker None s.hand (λ n e. cc);
        }

    sited_after : (w : State T) (e : Event T) → IsAllowed times p w e → IsSited w → IsSited (next_state times p w e)
    sited_after w (Feed c f) a s = record {
      bundles = each_both IsBundle w.in_flight (alone p f ∷ []) s.bundles
          (each_one IsBundle (alone p f) (record { node = a.input.0; port = inl refl; worker = routed p q f.update.row }, λ e. cc));
      held = s.held;
      inputs = s.inputs;
      hand = s.hand;
    }
    sited_after w (Advance c i ts) a s = record {
      bundles = s.bundles;
      held = s.held;
      hand = s.hand;
      inputs = each_both IsOpen (open_entries i ts) (filter (λ o. not (eqb o.input i)) w.open_times) (each_map IsOpen (λ t. record { input = i; time = t }) ts (λ t m. a.input)) (each_filter IsOpen (λ o. not (eqb o.input i)) w.open_times s.inputs);
    }
    sited_after w (Allow c v ts) a s = record { bundles = s.bundles; held = s.held; inputs = s.inputs; hand = s.hand }
    sited_after w (Look c) a s = s
    sited_after w (Take j b) a s =
        let here = (s.bundles b (queued b.place w.in_flight j b a.waits).0).0.node in
        record {
          bundles = λ x m. s.bundles x (among_left b.place w.in_flight j x m);
          held = each_both IsHeld w.held (held_entries b.place.node b.place.worker b.stamp) s.held (each_map IsHeld (λ t. record { node = b.place.node; worker = b.place.worker; time = t }) b.stamp (λ t m. (here, a.worker)));
          inputs = s.inputs;
          hand = hand_with p w.hand b.place.worker (Some b.place.node) s.hand (λ n e. (subst (λ z. z < length p.nodes) (same_Some b.place.node n e) here, a.worker));
        }
    sited_after w (TakeHeld k n) a s = record { bundles = s.bundles; held = s.held; inputs = s.inputs; hand = hand_with p w.hand k (Some n) s.hand (λ m e. (subst (λ z. z < length p.nodes) (same_Some n m e) a.within, a.worker)) }
    sited_after w (Give g ts sent) a s = sited_gave w g ts sent a s

    sited_first : IsSited (initial_state times p)
    sited_first = record {
      bundles = λ b m. absurd m;
      held = λ x m. absurd m;
      inputs = each_flat IsOpen (λ i. open_entries i (times.least ∷ [])) (numbers_where is_input p.nodes) (λ i m. each_one IsOpen (record { input = i; time = times.least }) (let r = filter_has (λ n. is_input (node_at p.nodes n)) (numbers_below (length p.nodes)) i m in (number_below (length p.nodes) i r.0, r.1)));
      hand = λ k n e. cc;
    }

    sited_state : (h : List (Event T)) → IsLegal times p h → IsSited (state_after times p h)
    sited_state [] l = sited_first
    sited_state (e ∷ h) l = sited_after (state_after times p h) e l.0 (sited_state h l.1)

    -- in every legal history, everything that waits is at a place that exists
    pub in_place_lem : (h : List (Event T)) → IsLegal times p h → IsInPlace p (state_after times p h)
    in_place_lem h l =
        let w = state_after times p h in
        let s = sited_state h l in
        record {
          bundles = λ b c. s.bundles b (among_contains b w.in_flight c);
          held = λ m c. s.held m (among_contains m w.held c);
          inputs = λ o c. s.inputs o (among_contains o w.open_times c);
          hand = s.hand;
        }

-- all that is outstanding is counted at a place of the plan
module _ {T : Type 0} (p : Dataflow) (w : State T) (placed : IsInPlace p w) where
  abbrev IsPlaced : Counted T → Type 0
  IsPlaced x = Tallies.IsPlace p.nodes x.place

  pub items_in_place : Tallies.AreInPlace p.nodes (items_of w)
  items_in_place x c = each_both IsPlaced (items_in_flight w.in_flight) (items_held w.held ++ items_open w.open_times) flight (each_both IsPlaced (items_held w.held) (items_open w.open_times) held opens) x (among_contains x (items_of w) c)
    where
      flight : Each IsPlaced (items_in_flight w.in_flight)
      flight = each_flat IsPlaced (λ b. map (λ t. record { place = Port b.place.node b.place.port; time = t }) b.stamp) w.in_flight (λ b m.
          let sited = (placed.bundles b (contains_among b w.in_flight m)).0 in
          each_map IsPlaced (λ t. record { place = Port b.place.node b.place.port; time = t }) b.stamp (λ t i. (sited.node, sited.port)))

      held : Each IsPlaced (items_held w.held)
      held = each_map IsPlaced (λ m. record { place = Held m.node; time = m.time }) w.held (λ m i. (placed.held m (contains_among m w.held i)).0)

      opens : Each IsPlaced (items_open w.open_times)
      opens = each_map IsPlaced (λ o. record { place = Input o.input; time = o.time }) w.open_times (λ o i. placed.inputs o (contains_among o w.open_times i))
