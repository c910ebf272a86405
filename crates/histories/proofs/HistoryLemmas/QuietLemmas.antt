-- A quiet board has caught up: each node's frontier is the least of the frontiers of the inputs
-- that feed it.
use Rattle.std.proofs.Common.{◌≡◌, ℕ, ◌<◌, Bool, true, false, cond, not, ◌||◌, List, [], ◌∷◌, ◌++◌, length, sym, refl, ap, ◌∙◌, subst, eqb, arith, IsTrue, ◌⊎◌, inl, inr, ⊎_elim}
use Rattle.std.specs.List.{flat_map}
use Rattle.std.proofs.lemmas.Bool.{and_parts, and_from, or_left, or_right, eqb-true, eq-eqb, false≢true, true≢false}
use Rattle.std.proofs.lemmas.List.Folds.{list_any-append}
use Rattle.lattice.specs.Times.{Times}
use Rattle.lattice.specs.Order.{PartialOrderLaws}
use Rattle.lattice.specs.Frontiers.{is_beyond}
use Rattle.lattice.proofs.BoundLemmas.{same_test}
use Rattle.lattice.proofs.FrontierLemmas.{beyond_up}
use Rattle.antichain.specs.Antichains.{least, SameElements}
use Rattle.antichain.proofs.AntichainLemmas.{beyond_has, has_beyond}
use Rattle.antichain.proofs.Lists.{Among, among_contains, contains_among, all_at, filter_has, filter_takes}
use Rattle.plan.specs.Ancestors.{feeds, feeders, numbers_below}
use Rattle.plan.specs.Nodes.{is_input}
use Rattle.plan.specs.Changes.{open_for}
use Rattle.plan.proofs.StandLemmas.{above_transitive}
use Rattle.plan.proofs.UpwardLemmas.{by_smaller}
use Rattle.progress.proofs.FrontierLemmas.{same_least}
use Rattle.progress.proofs.NumberLemmas.{numbered}
use Rattle.histories.specs.declared.event.HeldTime.{HeldTime}
use Rattle.histories.specs.declared.event.OpenTime.{OpenTime}
use Rattle.histories.specs.Histories.Dataflows.{Dataflow, IsDataflow, node_of, upstream}
use Rattle.histories.specs.Histories.States.{State, open_at}
use Rattle.histories.specs.Histories.Outstanding.{stamps, strictly_upstream, input_frontier}
use Rattle.histories.proofs.HistoryLemmas.OutstandingLemmas.{held_where, open_where, counted_times, outstanding, outstanding_is, beyond_input_frontier}
use Rattle.histories.specs.Histories.Readings.{IsQuiet, IsCaughtUp}
use Rattle.plan.proofs.StandLemmas.{above_earlier}

module _ {T : Type 0} (times : Times T) (o : PartialOrderLaws times) (p : Dataflow) (q : IsDataflow p) (w : State T) (n : ℕ)
    (at_inputs : (x : OpenTime T) → Among x w.open_times → (x.input < length p.nodes) × IsTrue (is_input (node_of p x.input))) where
  -- the elements of the frontiers of the inputs that feed the node
  abbrev fronts : List T
  fronts = open_for times p.nodes (λ i. open_at i w.open_times) n

  -- if an open time is at or before t, t is beyond the frontier of its input
  found_in : (t : T) (x : OpenTime T) → times.below x.time t ≡ true → (os : List (OpenTime T)) → Among x os → is_beyond times (open_at x.input os) t ≡ true
  found_in t x h [] a = absurd a
  found_in t x h (y ∷ os) a =
      list_any-append (λ f. times.below f t) (cond (eqb y.input x.input) (y.time ∷ []) []) (open_at x.input os)
      ∙ ⊎_elim
      (λ e. or_left (is_beyond times (cond (eqb y.input x.input) (y.time ∷ []) []) t) (is_beyond times (open_at x.input os) t) (subst (λ z. is_beyond times (cond (eqb z.input x.input) (z.time ∷ []) []) t ≡ true) (sym e) (rw (eq-eqb x.input x.input refl) (or_left (times.below x.time t) false h))))
      (λ b. or_right (is_beyond times (cond (eqb y.input x.input) (y.time ∷ []) []) t) (is_beyond times (open_at x.input os) t) (found_in t x h os b))
      a

  in_parts : (t : T) (i : ℕ) → is_beyond times (open_at i w.open_times) t ≡ true → (is : List ℕ) → Among i is → is_beyond times (flat_map (λ j. open_at j w.open_times) is) t ≡ true
  in_parts t i h [] a = absurd a
  in_parts t i h (j ∷ is) a =
      list_any-append (λ f. times.below f t) (open_at j w.open_times) (flat_map (λ j. open_at j w.open_times) is)
      ∙ ⊎_elim
      (λ e. or_left (is_beyond times (open_at j w.open_times) t) (is_beyond times (flat_map (λ j. open_at j w.open_times) is) t) (subst (λ z. is_beyond times (open_at z w.open_times) t ≡ true) (sym e) h))
      (λ b. or_right (is_beyond times (open_at j w.open_times) t) (is_beyond times (flat_map (λ j. open_at j w.open_times) is) t) (in_parts t i h is b))
      a

  -- a time beyond what is open at the node or above it is beyond what is open for it
  open_into : (t : T) (os : List (OpenTime T)) → ((x : OpenTime T) → Among x os → Among x w.open_times) → is_beyond times (open_where (upstream p n) os) t ≡ true → is_beyond times fronts t ≡ true
  open_into t [] among h = absurd (false≢true h)
  open_into t (x ∷ os) among h = step (upstream p n x.input) refl (times.below x.time t) refl h (open_into t os (λ y a. among y (inr a)))
    where
      here : upstream p n x.input ≡ true → times.below x.time t ≡ true → is_beyond times fronts t ≡ true
      here a l =
          let m = among x (inl refl) in
          let i = at_inputs x m in
          in_parts t x.input (found_in t x l w.open_times m) (feeders p.nodes n)
          (filter_takes (λ j. feeds p.nodes j n) (numbers_below (length p.nodes)) x.input (numbered (length p.nodes) x.input i.0) (and_from (is_input (node_of p x.input)) (upstream p n x.input) i.1 a))

      skip : (b : Bool) → b ≡ false → (b || is_beyond times (open_where (upstream p n) os) t) ≡ true → is_beyond times (open_where (upstream p n) os) t ≡ true
      skip true g k = absurd (true≢false g)
      skip false g k = k

      step : (b : Bool) → upstream p n x.input ≡ b → (c : Bool) → times.below x.time t ≡ c → is_beyond times (cond b (x.time ∷ []) [] ++ open_where (upstream p n) os) t ≡ true → (is_beyond times (open_where (upstream p n) os) t ≡ true → is_beyond times fronts t ≡ true) → is_beyond times fronts t ≡ true
      step true e true f k rest = here e f
      step true e false f k rest = rest (skip (times.below x.time t) f k)
      step false e c f k rest = rest k

  -- a time beyond what is open for the node is beyond what is open at it or above it
  one_open : (t : T) (i : ℕ) → upstream p n i ≡ true → (os : List (OpenTime T)) → is_beyond times (open_at i os) t ≡ true → is_beyond times (open_where (upstream p n) os) t ≡ true
  one_open t i a [] h = h
  one_open t i a (x ∷ os) h = step (eqb x.input i) refl h (one_open t i a os)
    where
      step : (b : Bool) → eqb x.input i ≡ b → is_beyond times (cond b (x.time ∷ []) [] ++ open_at i os) t ≡ true → (is_beyond times (open_at i os) t ≡ true → is_beyond times (open_where (upstream p n) os) t ≡ true) → is_beyond times (cond (upstream p n x.input) (x.time ∷ []) [] ++ open_where (upstream p n) os) t ≡ true
      step true e k ih =
          let there : upstream p n x.input ≡ true = ap (upstream p n) (eqb-true x.input i e) ∙ a in
          rw there (one (times.below x.time t) k)
        where
          one : (c : Bool) → (c || is_beyond times (open_at i os) t) ≡ true → (c || is_beyond times (open_where (upstream p n) os) t) ≡ true
          one true k = refl
          one false k = ih k
      step false e k ih =
          list_any-append (λ f. times.below f t) (cond (upstream p n x.input) (x.time ∷ []) []) (open_where (upstream p n) os)
          ∙ or_right (is_beyond times (cond (upstream p n x.input) (x.time ∷ []) []) t) (is_beyond times (open_where (upstream p n) os) t) (ih k)

  open_back : (t : T) (is : List ℕ) → ((i : ℕ) → Among i is → upstream p n i ≡ true) → is_beyond times (flat_map (λ j. open_at j w.open_times) is) t ≡ true → is_beyond times (open_where (upstream p n) w.open_times) t ≡ true
  open_back t [] all h = absurd (false≢true h)
  open_back t (i ∷ is) all h = step (is_beyond times (open_at i w.open_times) t) refl (sym (list_any-append (λ f. times.below f t) (open_at i w.open_times) (flat_map (λ j. open_at j w.open_times) is)) ∙ h) (open_back t is (λ j a. all j (inr a)))
    where
      step : (b : Bool) → is_beyond times (open_at i w.open_times) t ≡ b → (b || is_beyond times (flat_map (λ j. open_at j w.open_times) is) t) ≡ true → (is_beyond times (flat_map (λ j. open_at j w.open_times) is) t ≡ true → is_beyond times (open_where (upstream p n) w.open_times) t ≡ true) → is_beyond times (open_where (upstream p n) w.open_times) t ≡ true
      step true e k rest = one_open t i (all i (inl refl)) w.open_times e
      step false e k rest = rest k

  module _ (quiet : IsQuiet times p w) where
    -- on a quiet board, each held time that counts is at or after some element of an input's
    -- frontier
    held_of : (holds : ℕ → Bool) (t : T) (ms : List (HeldTime T)) → is_beyond times (held_where holds ms) t ≡ true → (m : HeldTime T) × Among m ms × (holds m.node ≡ true) × (times.below m.time t ≡ true)
    held_of holds t [] h = absurd (false≢true h)
    held_of holds t (m ∷ ms) h = step (holds m.node) refl (times.below m.time t) refl h (held_of holds t ms)
      where
        skip : (b : Bool) → b ≡ false → (b || is_beyond times (held_where holds ms) t) ≡ true → is_beyond times (held_where holds ms) t ≡ true
        skip true g k = absurd (true≢false g)
        skip false g k = k

        more : (x : HeldTime T) × Among x ms × (holds x.node ≡ true) × (times.below x.time t ≡ true) → (x : HeldTime T) × Among x (m ∷ ms) × (holds x.node ≡ true) × (times.below x.time t ≡ true)
        more r = (r.0, inr r.1, r.2, r.3)

        step : (b : Bool) → holds m.node ≡ b → (c : Bool) → times.below m.time t ≡ c → is_beyond times (cond b (m.time ∷ []) [] ++ held_where holds ms) t ≡ true
            → (is_beyond times (held_where holds ms) t ≡ true → (x : HeldTime T) × Among x ms × (holds x.node ≡ true) × (times.below x.time t ≡ true)) → (x : HeldTime T) × Among x (m ∷ ms) × (holds x.node ≡ true) × (times.below x.time t ≡ true)
        step true e true f k rest = (m, inl refl, e, f)
        step true e false f k rest = more (rest (skip (times.below m.time t) f k))
        step false e c f k rest = more (rest k)

    open_more : (a : ℕ) → upstream p n a ≡ true → (t : T) (os : List (OpenTime T)) → is_beyond times (open_where (upstream p a) os) t ≡ true → is_beyond times (open_where (upstream p n) os) t ≡ true
    open_more a e t [] h = h
    open_more a e t (x ∷ os) h = step (upstream p a x.input) refl h (open_more a e t os)
      where
        step : (b : Bool) → upstream p a x.input ≡ b → is_beyond times (cond b (x.time ∷ []) [] ++ open_where (upstream p a) os) t ≡ true → (is_beyond times (open_where (upstream p a) os) t ≡ true → is_beyond times (open_where (upstream p n) os) t ≡ true) → is_beyond times (cond (upstream p n x.input) (x.time ∷ []) [] ++ open_where (upstream p n) os) t ≡ true
        step true f k ih =
            let there : upstream p n x.input ≡ true = above_transitive p.nodes q.plan x.input a n f e in
            rw there (one (times.below x.time t) k)
          where
            one : (c : Bool) → (c || is_beyond times (open_where (upstream p a) os) t) ≡ true → (c || is_beyond times (open_where (upstream p n) os) t) ≡ true
            one true k = refl
            one false k = ih k
        step false f k ih =
            list_any-append (λ f. times.below f t) (cond (upstream p n x.input) (x.time ∷ []) []) (open_where (upstream p n) os)
            ∙ or_right (is_beyond times (cond (upstream p n x.input) (x.time ∷ []) []) t) (is_beyond times (open_where (upstream p n) os) t) (ih k)

    split : (there holding : ℕ → Bool) (t : T) → is_beyond times (counted_times w there holding) t ≡ true → (is_beyond times (held_where holding w.held) t ≡ true) ⊎ (is_beyond times (open_where there w.open_times) t ≡ true)
    split there holding t h = either (is_beyond times (held_where holding w.held) t) refl
        (sym (list_any-append (λ f. times.below f t) (held_where holding w.held) (open_where there w.open_times)) ∙ subst (λ bs. is_beyond times (flat_map (λ (b : Rattle.histories.specs.declared.event.Bundle.Bundle T). cond (there b.place.node) b.stamp []) bs ++ (held_where holding w.held ++ open_where there w.open_times)) t ≡ true) quiet.in_flight h)
      where
        either : (b : Bool) → is_beyond times (held_where holding w.held) t ≡ b → (b || is_beyond times (open_where there w.open_times) t) ≡ true → (is_beyond times (held_where holding w.held) t ≡ true) ⊎ (is_beyond times (open_where there w.open_times) t ≡ true)
        either true e k = inl e
        either false e k = inr k

    held_open : (a : ℕ) → upstream p n a ≡ true → (m : HeldTime T) → Among m w.held → m.node ≡ a → is_beyond times (open_where (upstream p n) w.open_times) m.time ≡ true
    held_open = by_smaller (λ a. upstream p n a ≡ true → (m : HeldTime T) → Among m w.held → m.node ≡ a → is_beyond times (open_where (upstream p n) w.open_times) m.time ≡ true) (λ a rest e m i f.
        let x = all_at (λ m. is_beyond times (input_frontier times p w m.node) m.time) w.held m quiet.held i in
        let y = subst (λ z. is_beyond times (counted_times w (upstream p z) (strictly_upstream p z)) m.time ≡ true) f (sym (beyond_input_frontier p w m.node times o m.time) ∙ x) in
        ⊎_elim
        (λ h.
        let r = held_of (strictly_upstream p a) m.time w.held h in
        let g = and_parts (upstream p a r.0.node) (not (eqb r.0.node a)) r.2 in
        let le = above_earlier p.nodes q.plan r.0.node a g.0 in
        let ne = differs r.0.node a g.1 in
        let k = rest r.0.node (omega arith) (above_transitive p.nodes q.plan r.0.node a n g.0 e) r.0 r.1 refl in
        beyond_up o (open_where (upstream p n) w.open_times) r.0.time m.time k r.3)
        (λ h. open_more a e m.time w.open_times h)
        (split (upstream p a) (strictly_upstream p a) m.time y))
      where
        differs : (i j : ℕ) → not (eqb i j) ≡ true → i ≡ j → ⊥
        differs i j h e = false≢true (sym (ap not (eq-eqb i j e)) ∙ h)

    -- on a quiet board, each node's frontier is the least of the frontiers of the inputs that feed
    -- it
    pub caught_up_lem : IsCaughtUp times p w n
    caught_up_lem =
        subst (λ ts. SameElements (least times ts) (least times fronts)) (sym (outstanding_is p w n))
        (same_least times o (outstanding p w n) fronts (λ t. same_test (is_beyond times (outstanding p w n) t) (is_beyond times fronts t) (into t) (back t)))
      where
        into : (t : T) → is_beyond times (outstanding p w n) t ≡ true → is_beyond times fronts t ≡ true
        into t h =
            ⊎_elim
            (λ k.
            let r = held_of (upstream p n) t w.held k in
            let b = held_open r.0.node r.2 r.0 r.1 refl in
            open_into t w.open_times (λ x a. a) (beyond_up o (open_where (upstream p n) w.open_times) r.0.time t b r.3))
            (λ k. open_into t w.open_times (λ x a. a) k)
            (split (upstream p n) (upstream p n) t h)

        back : (t : T) → is_beyond times fronts t ≡ true → is_beyond times (outstanding p w n) t ≡ true
        back t h =
            let k = open_back t (feeders p.nodes n) (λ i a. (and_parts (is_input (node_of p i)) (upstream p n i) (filter_has (λ j. feeds p.nodes j n) (numbers_below (length p.nodes)) i a).1).1) h in
            list_any-append (λ f. times.below f t) (stamps (λ site. upstream p n site.node) w.in_flight) (held_where (upstream p n) w.held ++ open_where (upstream p n) w.open_times)
            ∙ or_right (is_beyond times (stamps (λ site. upstream p n site.node) w.in_flight) t) (is_beyond times (held_where (upstream p n) w.held ++ open_where (upstream p n) w.open_times) t)
            (list_any-append (λ f. times.below f t) (held_where (upstream p n) w.held) (open_where (upstream p n) w.open_times)
            ∙ or_right (is_beyond times (held_where (upstream p n) w.held) t) (is_beyond times (open_where (upstream p n) w.open_times) t) k)

-- lists with the same elements have the same times beyond them
pub beyond_elements : {T : Type 0} (times : Times T) (F G : List T) → SameElements F G → (t : T) → is_beyond times F t ≡ is_beyond times G t
beyond_elements times F G same t =
    same_test (is_beyond times F t) (is_beyond times G t)
    (λ h. let r = beyond_has times F t h in has_beyond times G r.0 t (among_contains r.0 G (same.into r.0 (contains_among r.0 F r.1))) r.2)
    (λ h. let r = beyond_has times G t h in has_beyond times F r.0 t (among_contains r.0 F (same.back r.0 (contains_among r.0 G r.1))) r.2)
