-- What each event makes of what a worker has gathered at a node, and why it may be given or held
-- back.
use Rattle.std.proofs.Common.{◌≡◌, ◌≢◌, ℕ, ◌+◌, ◌≤◌, Bool, true, false, cond, ◌&&◌, eqb, not, List, [], ◌∷◌, ◌++◌, Option, Some, None, IsTrue, sym, refl, ap, ◌∙◌, arith, ⊎_elim}
use Rattle.std.specs.List.{filter, list_all}
use mathlib.Core.Path.{fun_ext}
use Rattle.std.proofs.lemmas.Bool.{and_parts, and_from, or_cases, or_left, or_right, eqb-true, eqb-false, eq-eqb, ne_eqb, true≢false}
use Rattle.std.proofs.lemmas.Int.{ints}
use Rattle.std.proofs.lemmas.Option.{none-some, same_Some}
use Rattle.std.proofs.lemmas.List.{append-nil, append_assoc, map-append}
use Rattle.std.proofs.lemmas.List.Concat.{flat_map-append}
use Rattle.std.proofs.lemmas.List.Folds.{list_all-append, list_all-map, list_any-append}
use Rattle.std.proofs.Math.IntN.{ℤ, ◌+ℤ◌}
use Rattle.lattice.specs.Times.{Times}
use Rattle.lattice.specs.Order.{PartialOrderLaws}
use Rattle.lattice.specs.Frontiers.{is_beyond, all_beyond}
use Rattle.lattice.proofs.FrontierLemmas.{all_more, all_beyond_later, all_beyond_from}
use Rattle.antichain.proofs.Lists.{all_at}
use Rattle.update.specs.Bags.{count_of, total_by}
use Rattle.update.specs.Updates.{as_of, size}
use Rattle.update.specs.declared.change.Update.{Update}
use Rattle.update.proofs.ConsolidatedLemmas.{summed_size_is, summed_size-append}
use Rattle.plan.specs.Changes.{has_passed}
use Rattle.plan.specs.Nodes.{key_width, is_linear, is_reduction, arranged_by}
use Rattle.plan.specs.Bounds.{output_bound}
use Rattle.plan.specs.declared.node.Node.{Node}
use Rattle.plan.proofs.OperatorLemmas.{given_nothing}
use Rattle.linear.specs.Applied.{linear_output}
use Rattle.linear.specs.Ports.{is_port, with_more_at}
use Rattle.linear.proofs.PortLemmas.{output_bound-more}
use Rattle.linear.proofs.SumLemmas.{applied_goes_on}
use Rattle.linear.proofs.SizeLemmas.{size_applied, times_applied}
use Rattle.histories.specs.declared.event.Site.{Site}
use Rattle.histories.specs.declared.event.Bundle.{Bundle}
use Rattle.histories.specs.declared.event.Emission.{Emission}
use Rattle.histories.specs.declared.event.HeldTime.{HeldTime}
use Rattle.histories.specs.declared.event.Event.{Event}
use Rattle.histories.specs.declared.event.Event.TheVariants.{Take, TakeHeld, Give}
use Rattle.histories.specs.Histories.Dataflows.{Dataflow, node_of, node_output, source_of}
use Rattle.histories.specs.Histories.States.{State, place, same_place, update_times, emitted_by, held_at}
use Rattle.histories.specs.Histories.Shares.{share_from, part}
use Rattle.histories.specs.Histories.NodeLaws.{received_at, NodeLaw}
use Rattle.histories.specs.Histories.{is_held_by, held_entries, initial_state, give_state, next_state, state_after, IsTake, IsGive, IsAllowed, IsLegal}
use Rattle.histories.proofs.HistoryLemmas.FlowLemmas.{as_of-append, sum_at, sum_at-append, not_beyond, queued}
use Rattle.histories.proofs.HistoryLemmas.KeptLemmas.{as_of-passed, held_marked, held_unmarked, held_kept, is_stamped, kept_state}
use Rattle.histories.proofs.HistoryLemmas.StampLemmas.{beyond_passed}
use Rattle.operator_laws.specs.GatheredUpdates.{is_of, IsCut, IsInHand, IsPiece, IsSplit, IsStamped, IsGathering, IsHeldFor}

-- a node and a worker are the same node and worker; every claim about the event's own node needs it
pub own_place : (n k : ℕ) → (eqb n n && eqb k k) ≡ true
own_place n k = and_from (eqb n n) (eqb k k) (eq-eqb n n refl) (eq-eqb k k refl)

-- the sizes of two lists add up
pub size_both : {T : Type 0} (us vs : List (Update T)) → size (us ++ vs) ≡ size us + size vs
size_both us vs =
    let a = summed_size_is us in
    let b = summed_size_is vs in
    let c = summed_size_is (us ++ vs) in
    let d = summed_size-append us vs in
    omega (arith, a, b, c, d)

-- the empty list has size 0
pub size_none : (T : Type 0) → size {T = T} [] ≡ 0
size_none T = sym (summed_size_is {T = T} [])

-- the times of two lists are the times of each
pub times_both : {T : Type 0} (us vs : List (Update T)) → update_times (us ++ vs) ≡ update_times us ++ update_times vs
times_both us vs = map-append (λ u. u.time) us vs

-- Lists of times beyond a frontier

module _ {T : Type 0} (times : Times T) where
  -- if two lists are beyond a frontier, so are both together
  pub beyond_both : (F xs ys : List T) → all_beyond times F xs ≡ true → all_beyond times F ys ≡ true → all_beyond times F (xs ++ ys) ≡ true
  beyond_both F xs ys a b = list_all-append (is_beyond times F) xs ys ∙ and_from (all_beyond times F xs) (all_beyond times F ys) a b

  -- if two lists together are beyond a frontier, so is each
  pub beyond_parts : (F xs ys : List T) → all_beyond times F (xs ++ ys) ≡ true → (all_beyond times F xs ≡ true) × (all_beyond times F ys ≡ true)
  beyond_parts F xs ys h = and_parts (all_beyond times F xs) (all_beyond times F ys) (sym (list_all-append (is_beyond times F) xs ys) ∙ h)

  -- what is beyond a frontier is beyond one that has more elements
  pub more_left : (F G : List T) (t : T) → is_beyond times F t ≡ true → is_beyond times (F ++ G) t ≡ true
  more_left F G t h = list_any-append (λ f. times.below f t) F G ∙ or_left (is_beyond times F t) (is_beyond times G t) h

  pub more_right : (F G : List T) (t : T) → is_beyond times G t ≡ true → is_beyond times (F ++ G) t ≡ true
  more_right F G t h = list_any-append (λ f. times.below f t) F G ∙ or_right (is_beyond times F t) (is_beyond times G t) h

  -- the order of a frontier's elements does not matter
  turned : (F G : List T) (t : T) → is_beyond times (F ++ G) t ≡ true → is_beyond times (G ++ F) t ≡ true
  turned F G t h = ⊎_elim (more_right G F t) (more_left G F t) (or_cases (is_beyond times F t) (is_beyond times G t) (sym (list_any-append (λ f. times.below f t) F G) ∙ h))

  -- whether updates are beyond a frontier, as a test of each update
  pub over_times : (F : List T) (us : List (Update T)) → all_beyond times F (update_times us) ≡ list_all (λ u. is_beyond times F u.time) us
  over_times F us = list_all-map (is_beyond times F) (λ (u : Update T). u.time) us

-- Events elsewhere

-- at a node a worker received, gave and holds the same in both states, and has the node in hand
-- only if it had
pub record IsSameAt {T : Type 0} (w v : State T) (n k : ℕ) : Type 0 where
  pub emitted : emitted_by n k v.emitted ≡ emitted_by n k w.emitted
  pub received : (port : ℕ) → received_at v n k port ≡ received_at w n k port
  pub held : held_at n k v.held ≡ held_at n k w.held
  pub hand : v.hand k ≢ Some n → w.hand k ≢ Some n

other_port : (a b c : Bool) → (a && c) ≡ false → (a && (b && c)) ≡ false
other_port true true c e = e
other_port true false c e = refl
other_port false b c e = refl

hand_took : (hand : ℕ → Option ℕ) (i : ℕ) (x : Option ℕ) (k n : ℕ) → hand i ≡ None → cond (eqb k i) x (hand k) ≢ Some n → hand k ≢ Some n
hand_took hand i x k n free = step (eqb k i) refl
  where
    step : (b : Bool) → eqb k i ≡ b → cond b x (hand k) ≢ Some n → hand k ≡ Some n → ⊥
    step true e h g = none-some n (sym (ap hand (eqb-true k i e) ∙ free) ∙ g)
    step false e h g = h g

hand_gave : (hand : ℕ → Option ℕ) (i m k n : ℕ) → hand i ≡ Some m → (eqb m n && eqb i k) ≡ false → cond (eqb k i) None (hand k) ≢ Some n → hand k ≢ Some n
hand_gave hand i m k n mine d = step (eqb k i) refl
  where
    step : (b : Bool) → eqb k i ≡ b → cond b None (hand k) ≢ Some n → hand k ≡ Some n → ⊥
    step true e h g =
        let i_is_k : i ≡ k = sym (eqb-true k i e) in
        let m_is_n : m ≡ n = same_Some m n (sym mine ∙ (ap hand i_is_k ∙ g)) in
        true≢false (sym (and_from (eqb m n) (eqb i k) (eq-eqb m n m_is_n) (eq-eqb i k i_is_k)) ∙ d)
    step false e h g = h g

-- what a worker holds at a node, of two lists
held_both : {T : Type 0} (n k : ℕ) (xs ys : List (HeldTime T)) → held_at n k (xs ++ ys) ≡ held_at n k xs ++ held_at n k ys
held_both {T} n k xs ys = flat_map-append (λ (m : HeldTime T). cond (eqb m.node n && eqb m.worker k) (m.time ∷ []) []) xs ys

module _ {T : Type 0} (times : Times T) (p : Dataflow) where
  -- an event that is not of this node and worker leaves all that the invariants of the node and
  -- worker speak of
  pub same_after : (w : State T) (n k : ℕ) (e : Event T) → IsAllowed times p w e → is_of n k e ≡ false → IsSameAt w (next_state times p w e) n k
  same_after w n k (Take j b) a d = record {
    emitted = refl;
    received = λ i. ap (λ c. cond c b.updates [] ++ received_at w n k i) (other_port (eqb b.place.node n) (eqb b.place.port i) (eqb b.place.worker k) d);
    held = held_both n k w.held (held_entries b.place.node b.place.worker b.stamp)
        ∙ (ap (λ ts. held_at n k w.held ++ ts) (held_unmarked n k b.place.node b.place.worker b.stamp d)
        ∙ append-nil (held_at n k w.held));
    hand = hand_took w.hand b.place.worker (Some b.place.node) k n a.free;
  }
  same_after w n k (TakeHeld i m) a d = record { emitted = refl; received = λ i. refl; held = refl; hand = hand_took w.hand i (Some m) k n a.free }
  same_after w n k (Give g ts sent) a d = record {
    emitted = ap (λ b. cond b g.updates [] ++ emitted_by n k w.emitted) d;
    received = λ i. refl;
    held = held_both n k (held_entries g.node g.worker ts) (filter (λ m. not (is_held_by g.node g.worker m)) w.held)
        ∙ (ap (λ us. us ++ held_at n k (filter (λ m. not (is_held_by g.node g.worker m)) w.held)) (held_unmarked n k g.node g.worker ts d)
        ∙ held_kept n k g.node g.worker w.held d);
    hand = hand_gave w.hand g.worker g.node k n a.in_hand d;
  }
  same_after w n k e a d = record { emitted = refl; received = λ i. refl; held = refl; hand = λ h. h }

  -- the law for events elsewhere
  pub same_gathering : (w v : State T) (n k : ℕ) (waiting : List (Update T)) → IsSameAt w v n k → IsGathering times p w n k waiting → IsGathering times p v n k waiting
  same_gathering w v n k waiting s g = record {
    kind = g.kind;
    sums = λ t row. ap (λ es. count_of (as_of times t (waiting ++ es)) row) s.emitted
        ∙ (g.sums t row ∙ ap (λ (f : ℕ → List (Update T)). count_of (node_output p n (λ i. as_of times t (f i))) row) (sym (fun_ext s.received)));
    load =
        let a : size (emitted_by n k v.emitted) ≡ size (emitted_by n k w.emitted) = ap size s.emitted in
        let b : output_bound (node_of p n) 0 (λ i. size (received_at v n k i)) ≡ output_bound (node_of p n) 0 (λ i. size (received_at w n k i)) = ap (λ (f : ℕ → List (Update T)). output_bound (node_of p n) 0 (λ i. size (f i))) (fun_ext s.received) in
        let l = g.load in
        omega (arith, a, b, l);
    held = ap (λ ts. all_beyond times ts (update_times waiting)) s.held ∙ g.held;
    tight = λ h. ap (all_beyond times (update_times waiting)) s.held ∙ g.tight (s.hand h);
  }

  -- the law for the state before the first event
  pub first_gathering : (n k : ℕ) → is_reduction (node_of p n) ≡ false → IsGathering times p (initial_state times p) n k []
  first_gathering n k r = record {
    kind = r;
    sums = λ t row. sym (given_nothing (key_width p.nodes (node_of p n)) (node_of p n) row);
    load = let e = size_none T in omega (arith, e);
    held = refl;
    tight = λ h. refl;
  }

-- A take

module _ {T : Type 0} (times : Times T) where
  -- the law for pieces of linear nodes
  pub linear_piece_lem : (k : ℕ) (node : Node) → IsTrue (is_linear node) → (port : ℕ) → IsTrue (is_port node port) → (received : ℕ → List (Update T)) (us : List (Update T))
      → IsPiece times k node received port us (linear_output node us)
  linear_piece_lem k node l port h received us = record {
    sums = λ made t before. applied_goes_on times t k node l port h received made us before;
    load =
        let small = size_applied node us in
        let more = output_bound-more (size us) (λ i. size (received i)) (λ i. size (with_more_at port us received i)) node l port h (λ i. grown i (eqb i port)) in
        omega (arith, small, more);
    beyond = λ F b. over_times times F (linear_output node us) ∙ times_applied node (is_beyond times F) us (sym (over_times times F us) ∙ b);
  }
    where
      grown : (i : ℕ) (b : Bool) → size (cond b (us ++ received i) (received i)) ≡ cond b (size us + size (received i)) (size (received i))
      grown i true = size_both us (received i)
      grown i false = refl

-- the law that bundles which wait are stamped
pub waiting_is_stamped : {T : Type 0} (times : Times T) → PartialOrderLaws times → (p : Dataflow) (h : List (Event T)) → IsLegal times p h
    → (number : ℕ) (bundle : Bundle T) → IsTake times p (state_after times p h) number bundle → IsStamped times bundle
waiting_is_stamped times o p h l number bundle take =
    let w = state_after times p h in
    all_at (is_stamped times) w.in_flight bundle (kept_state times o p h l).stamped (queued bundle.place w.in_flight number bundle take.waits).0

module _ {T : Type 0} (times : Times T) (o : PartialOrderLaws times) (p : Dataflow) (w : State T) (number : ℕ) (bundle : Bundle T) where
  abbrev site : Site
  site = bundle.place

  abbrev us : List (Update T)
  us = bundle.updates

  abbrev taken_state : State T
  taken_state = next_state times p w (Take number bundle)

  -- what was received at a port before
  abbrev before : ℕ → List (Update T)
  before i = received_at w site.node site.worker i

  -- what was received at a port once the bundle is taken; the answers of joins need it
  pub received_is : (i : ℕ) → cond (same_place site (place site.node i site.worker)) us [] ++ before i ≡ with_more_at site.port us before i
  received_is i = step (eqb i site.port) refl
    where
      step : (b : Bool) → eqb i site.port ≡ b → cond (same_place site (place site.node i site.worker)) us [] ++ before i ≡ cond b (us ++ before i) (before i)
      step true e =
          ap (λ b. cond b us [] ++ before i)
          (and_from (eqb site.node site.node) (eqb site.port i && eqb site.worker site.worker) (eq-eqb site.node site.node refl)
          (and_from (eqb site.port i) (eqb site.worker site.worker) (eq-eqb site.port i (sym (eqb-true i site.port e))) (eq-eqb site.worker site.worker refl)))
      step false e = ap (λ b. cond b us [] ++ before i) (other (eqb site.node site.node) (eqb site.port i) (eqb site.worker site.worker) (ne_eqb site.port i (λ d. eqb-false i site.port e (sym d))))
        where
          other : (a b c : Bool) → b ≡ false → (a && (b && c)) ≡ false
          other true b c e = ap (λ z. z && c) e
          other false b c e = refl

  -- after a take the worker holds the bundle's stamp too
  held_is : held_at site.node site.worker taken_state.held ≡ held_at site.node site.worker w.held ++ bundle.stamp
  held_is =
      held_both site.node site.worker w.held (held_entries site.node site.worker bundle.stamp)
      ∙ ap (λ ts. held_at site.node site.worker w.held ++ ts) (held_marked site.node site.worker site.node site.worker bundle.stamp (own_place site.node site.worker))

  -- what was beyond the held times is so after the take
  pub still_held : (ts : List T) → all_beyond times (held_at site.node site.worker w.held) ts ≡ true → all_beyond times (held_at site.node site.worker taken_state.held) ts ≡ true
  still_held ts h =
      ap (λ held. all_beyond times held ts) held_is
      ∙ all_more (is_beyond times (held_at site.node site.worker w.held)) (is_beyond times (held_at site.node site.worker w.held ++ bundle.stamp)) (more_left times (held_at site.node site.worker w.held) bundle.stamp) ts h

  -- what is beyond the bundle's stamp is beyond the held times after the take
  pub newly_held : (ts : List T) → all_beyond times bundle.stamp ts ≡ true → all_beyond times (held_at site.node site.worker taken_state.held) ts ≡ true
  newly_held ts h =
      ap (λ held. all_beyond times held ts) held_is
      ∙ all_more (is_beyond times bundle.stamp) (is_beyond times (held_at site.node site.worker w.held ++ bundle.stamp)) (more_right times (held_at site.node site.worker w.held) bundle.stamp) ts h

  -- the worker that takes a bundle has its node in hand
  pub in_hand_now : taken_state.hand site.worker ≡ Some site.node
  in_hand_now = ap (λ b. cond b (Some site.node) (w.hand site.worker)) (eq-eqb site.worker site.worker refl)

  -- the law for takes
  pub took_gathering : (out waiting : List (Update T)) → IsStamped times bundle → IsGathering times p w site.node site.worker waiting
      → IsPiece times (key_width p.nodes (node_of p site.node)) (node_of p site.node) before site.port us out
      → IsGathering times p taken_state site.node site.worker (out ++ waiting)
  took_gathering out waiting stamped g piece =
      let given_before = emitted_by site.node site.worker w.emitted in
      record {
        kind = g.kind;
        sums = λ t row.
            ap (λ es. count_of (as_of times t es) row) (append_assoc out waiting given_before)
            ∙ (piece.sums (waiting ++ given_before) t (g.sums t) row
            ∙ ap (λ (f : ℕ → List (Update T)). count_of (node_output p site.node (λ i. as_of times t (f i))) row) (sym (fun_ext received_is)));
        load =
            let a = size_both out waiting in
            let b : output_bound (node_of p site.node) 0 (λ i. size (received_at taken_state site.node site.worker i)) ≡ output_bound (node_of p site.node) 0 (λ i. size (with_more_at site.port us before i)) = ap (λ (f : ℕ → List (Update T)). output_bound (node_of p site.node) 0 (λ i. size (f i))) (fun_ext received_is) in
            let l = g.load in
            let m = piece.load in
            omega (arith, a, b, l, m);
        held =
            ap (all_beyond times (held_at site.node site.worker taken_state.held)) (times_both out waiting)
            ∙ beyond_both times (held_at site.node site.worker taken_state.held) (update_times out) (update_times waiting)
            (newly_held (update_times out) (piece.beyond bundle.stamp stamped))
            (still_held (update_times waiting) g.held);
        tight = λ h. absurd (h in_hand_now);
      }

-- A give

gone : {T : Type 0} (n k : ℕ) (ms : List (HeldTime T)) → held_at n k (filter (λ m. not (is_held_by n k m)) ms) ≡ []
gone n k [] = refl
gone {T} n k (m ∷ ms) = step (eqb m.node n && eqb m.worker k) refl (gone n k ms)
  where
    step : (b : Bool) → (eqb m.node n && eqb m.worker k) ≡ b → held_at n k (filter (λ m. not (is_held_by n k m)) ms) ≡ []
        → held_at n k (cond (not b) (m ∷ filter (λ m. not (is_held_by n k m)) ms) (filter (λ m. not (is_held_by n k m)) ms)) ≡ []
    step true e h = h
    step false e h = ap (λ b. cond b (m.time ∷ []) [] ++ held_at n k (filter (λ m. not (is_held_by n k m)) ms)) e ∙ h

module _ {T : Type 0} (times : Times T) (p : Dataflow) (w : State T) (g : Emission T) (held : List T) (sent : List (Bundle T)) where
  -- what a worker gave at the node once it gave this
  pub emitted_is : emitted_by g.node g.worker (give_state times p w g held sent).emitted ≡ g.updates ++ emitted_by g.node g.worker w.emitted
  emitted_is = ap (λ b. cond b g.updates [] ++ emitted_by g.node g.worker w.emitted) (own_place g.node g.worker)

  -- after a give the worker holds just the given times at the node
  pub held_now : held_at g.node g.worker (give_state times p w g held sent).held ≡ held
  held_now =
      held_both g.node g.worker (held_entries g.node g.worker held) (filter (λ m. not (is_held_by g.node g.worker m)) w.held)
      ∙ (ap (λ ts. ts ++ held_at g.node g.worker (filter (λ m. not (is_held_by g.node g.worker m)) w.held)) (held_marked g.node g.worker g.node g.worker held (own_place g.node g.worker))
      ∙ (ap (λ ts. held ++ ts) (gone g.node g.worker w.held) ∙ append-nil held))

module _ {T : Type 0} (times : Times T) (o : PartialOrderLaws times) where
  -- what is held for a list is beyond each frontier that the list is beyond
  pub held_beyond : (F held ts : List T) → IsHeldFor times held ts → all_beyond times F ts ≡ true → all_beyond times F held ≡ true
  held_beyond F held ts is h = all_beyond_later o F ts held h is.tight

  -- a list may be held for another if the same times are beyond both, as its least times may
  pub held_for_same : (held ts : List T) → ((t : T) → is_beyond times held t ≡ is_beyond times ts t) → IsHeldFor times held ts
  held_for_same held ts same = record {
    covers = all_beyond_from o held ts (λ t h. same t ∙ h);
    tight = all_beyond_from o ts held (λ t h. sym (same t) ∙ h);
  }

module _ {T : Type 0} (times : Times T) (o : PartialOrderLaws times) (p : Dataflow) (w : State T) (g : Emission T) (waiting rest : List (Update T)) (held : List T) (sent : List (Bundle T))
    (before : IsGathering times p w g.node g.worker waiting) (split : IsSplit times waiting g.updates rest) (is_held : IsHeldFor times held (update_times rest)) where
  abbrev given_state : State T
  given_state = give_state times p w g held sent

  abbrev earlier : List (Update T)
  earlier = emitted_by g.node g.worker w.emitted

  swap : (a b c x : ℤ) → (a +ℤ b) ≡ x → b +ℤ (a +ℤ c) ≡ x +ℤ c
  swap a b c x h = omega (arith, ints)

  -- what waits now and what was given by now are what they were before
  all_there : (t : T) (row : List ℤ) → count_of (as_of times t (rest ++ (g.updates ++ earlier))) row ≡ count_of (as_of times t (waiting ++ earlier)) row
  all_there t row =
      let s = sym (sum_at-append times t g.updates rest row) ∙ split.sums t row in
      sum_at-append times t rest (g.updates ++ earlier) row
      ∙ (ap (λ z. sum_at times t rest row +ℤ z) (sum_at-append times t g.updates earlier row)
      ∙ (swap (sum_at times t g.updates row) (sum_at times t rest row) (sum_at times t earlier row) (sum_at times t waiting row) s
      ∙ sym (sum_at-append times t waiting earlier row)))

  law : NodeLaw times p given_state g.node g.worker
  law t passed row =
      let early = not_beyond (is_beyond times held t) (ap (λ ts. has_passed times ts t) (sym (held_now times p w g held sent)) ∙ passed) in
      let clear : as_of times t rest ≡ [] = as_of-passed times t rest (beyond_passed times o held (update_times rest) t is_held.covers early) in
      ap (λ es. count_of (as_of times t es) row) (emitted_is times p w g held sent)
      ∙ (ap (λ es. count_of (es ++ as_of times t (g.updates ++ earlier)) row) (sym clear)
      ∙ (ap (λ es. count_of es row) (sym (as_of-append times t rest (g.updates ++ earlier)))
      ∙ (all_there t row ∙ before.sums t row)))

  within : size (emitted_by g.node g.worker given_state.emitted) + size rest ≤ output_bound (node_of p g.node) 0 (λ i. size (received_at w g.node g.worker i))
  within =
      let a = ap size (emitted_is times p w g held sent) ∙ size_both g.updates earlier in
      let b = split.smaller in
      let c = before.load in
      omega (arith, a, b, c)

  -- shows that the give is allowed
  pub may_give : IsInHand p w g.node g.worker → IsCut times p g sent → IsGive times p w g held sent
  may_give hand cut =
      let mine = held_at g.node g.worker w.held in
      let out = split.out_beyond mine before.held in
      record {
        worker = hand.worker;
        in_hand = hand.hand;
        onward = beyond_both times mine (update_times g.updates) held out (held_beyond times o mine held (update_times rest) is_held (split.rest_beyond mine before.held));
        law = law;
        load = record { within = λ e. let h = within in omega (arith, h); final = λ e. absurd (true≢false (sym e ∙ before.kind)) };
        whole = λ s f. ap (total_by f) (cut.whole s);
        filled = cut.filled;
        stamped = cut.stamped mine out;
      }

  -- the law for gives
  pub gave_gathering : IsGathering times p given_state g.node g.worker rest
  gave_gathering = record {
    kind = before.kind;
    sums = λ t row. ap (λ es. count_of (as_of times t (rest ++ es)) row) (emitted_is times p w g held sent) ∙ (all_there t row ∙ before.sums t row);
    load = let h = within in omega (arith, h);
    held = ap (λ ts. all_beyond times ts (update_times rest)) (held_now times p w g held sent) ∙ is_held.covers;
    tight = λ h. ap (all_beyond times (update_times rest)) (held_now times p w g held sent) ∙ is_held.tight;
  }

-- Nothing given

-- the emission of a worker that gives nothing
abbrev pub no_emission : {T : Type 0} → ℕ → ℕ → Emission T
no_emission n k = record { node = n; worker = k; updates = [] }

abbrev no_updates : {T : Type 0} → List (Update T)
no_updates = []

module _ {T : Type 0} (times : Times T) where
  -- all may be held back
  pub split_none : (waiting : List (Update T)) → IsSplit times waiting [] waiting
  split_none waiting = record {
    sums = λ t row. refl;
    smaller = let e = size_none T in omega (arith, e);
    out_beyond = λ F h. refl;
    rest_beyond = λ F h. h;
  }

  -- nothing is cut into no bundles
  pub cut_none : (p : Dataflow) (n k : ℕ) → IsCut times p (record { node = n; worker = k; updates = [] }) []
  cut_none p n k = record { whole = λ site. sym (none (source_of p site.node site.port) (arranged_by (node_of p site.node)) site.worker); filled = refl; stamped = λ held h. refl }
    where
      nothing : (c : Option ℕ) (i : ℕ) → part {T = T} p c k i [] ≡ []
      nothing None i = both (eqb k i)
        where
          both : (b : Bool) → cond b (no_updates {T = T}) [] ≡ no_updates {T = T}
          both true = refl
          both false = refl
      nothing (Some c) i = refl

      none : (s c : Option ℕ) (i : ℕ) → share_from {T = T} p s c i (record { node = n; worker = k; updates = [] }) ≡ []
      none None c i = refl
      none (Some s) c i = one (eqb n s)
        where
          one : (b : Bool) → cond b (part {T = T} p c k i []) [] ≡ []
          one true = nothing c i
          one false = refl

module _ {T : Type 0} (times : Times T) (o : PartialOrderLaws times) (p : Dataflow) (w : State T) (n k : ℕ) (waiting : List (Update T)) (held : List T) (before : IsGathering times p w n k waiting) (is_held : IsHeldFor times held (update_times waiting)) where
  -- a worker may give nothing and hold back all
  pub may_hold_back : IsInHand p w n k → IsGive times p w (no_emission n k) held []
  may_hold_back hand = may_give times o p w (no_emission n k) waiting waiting held [] before (split_none times waiting) is_held hand (cut_none times p n k)

  -- then the same waits
  pub held_back : IsGathering times p (give_state times p w (no_emission n k) held []) n k waiting
  held_back = gave_gathering times o p w (no_emission n k) waiting waiting held [] before (split_none times waiting) is_held

-- In any order

module _ {T : Type 0} (times : Times T) (p : Dataflow) (w : State T) (n k : ℕ) (us vs : List (Update T)) where
  turn : (a b c : ℤ) → (a +ℤ b) +ℤ c ≡ (b +ℤ a) +ℤ c
  turn a b c = omega (arith, ints)

  -- if updates are beyond a frontier, so are they in the other order
  pub turned_beyond : (F : List T) → all_beyond times F (update_times (us ++ vs)) ≡ true → all_beyond times F (update_times (vs ++ us)) ≡ true
  turned_beyond F h =
      let parts = beyond_parts times F (update_times us) (update_times vs) (sym (ap (all_beyond times F) (times_both us vs)) ∙ h) in
      ap (all_beyond times F) (times_both vs us) ∙ beyond_both times F (update_times vs) (update_times us) parts.1 parts.0

  -- the law for the order of what waits
  pub turned_gathering : IsGathering times p w n k (us ++ vs) → IsGathering times p w n k (vs ++ us)
  turned_gathering g =
      let earlier = emitted_by n k w.emitted in
      record {
        kind = g.kind;
        sums = λ t row.
            let count : List (Update T) → ℤ = λ xs. sum_at times t xs row in
            sum_at-append times t (vs ++ us) earlier row
            ∙ (ap (λ z. z +ℤ count earlier) (sum_at-append times t vs us row)
            ∙ (turn (count vs) (count us) (count earlier)
            ∙ (sym (ap (λ z. z +ℤ count earlier) (sum_at-append times t us vs row))
            ∙ (sym (sum_at-append times t (us ++ vs) earlier row) ∙ g.sums t row))));
        load =
            let a = size_both us vs in
            let b = size_both vs us in
            let l = g.load in
            omega (arith, a, b, l);
        held = turned_beyond (held_at n k w.held) g.held;
        tight = λ h.
            all_more (is_beyond times (update_times (us ++ vs))) (is_beyond times (update_times (vs ++ us)))
            (λ t b. ap (λ ts. is_beyond times ts t) (times_both vs us) ∙ turned times (update_times us) (update_times vs) t (ap (λ ts. is_beyond times ts t) (sym (times_both us vs)) ∙ b))
            (held_at n k w.held) (g.tight h);
      }
