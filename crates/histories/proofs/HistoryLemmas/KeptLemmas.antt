-- The invariant of legal histories, `IsKept`, and that each event keeps it. What came to a place is
-- in flight there or was received there; each worker obeys the node law; and each update in flight
-- is beyond its bundle's stamp.
use Rattle.std.proofs.Common.{◌≡◌, ℕ, ◌+◌, ◌<◌, Bool, true, false, cond, not, ◌&&◌, List, [], ◌∷◌, ◌++◌, sym, refl, ap, ◌∙◌, subst, Some, eqb, arith, IsTrue}
use Rattle.std.specs.List.{flat_map, filter, list_all, slice_get}
use Rattle.std.proofs.lemmas.Int.{ints}
use Rattle.std.proofs.lemmas.Bool.{and_parts, and_from, or_parts, eqb-true}
use Rattle.std.proofs.lemmas.List.Concat.{flat_map-append}
use Rattle.std.proofs.lemmas.List.Folds.{list_any-append, list_all-append}
use Rattle.std.proofs.Math.IntN.{ℤ, pos, ◌+ℤ◌}
use mathlib.Core.Path.{fun_ext}
use Rattle.lattice.specs.Times.{Times}
use Rattle.lattice.specs.Order.{PartialOrderLaws}
use Rattle.lattice.specs.Frontiers.{is_beyond, all_beyond}
use Rattle.lattice.proofs.FrontierLemmas.{beyond_itself}
use Rattle.antichain.proofs.Lists.{all_at, all_from}
use Rattle.update.specs.Bags.{count_of, total_by}
use Rattle.update.specs.Updates.{as_of}
use Rattle.update.specs.declared.change.Update.{Update}
use Rattle.histories.proofs.HistoryLemmas.StampLemmas.{beyond_passed}
use Rattle.histories.specs.declared.event.Site.{Site}
use Rattle.histories.specs.declared.event.Bundle.{Bundle}
use Rattle.histories.specs.declared.event.Fed.{Fed}
use Rattle.histories.specs.declared.event.Emission.{Emission}
use Rattle.histories.specs.declared.event.HeldTime.{HeldTime}
use Rattle.histories.specs.declared.event.Event.{Event}
use Rattle.histories.specs.declared.event.Event.TheVariants.{Feed, Advance, Allow, Look, Take, TakeHeld, Give}
use Rattle.histories.specs.Histories.Dataflows.{Dataflow, node_of, node_output}
use Rattle.histories.specs.Histories.States.{State, place, same_place, update_times, updates_at, queue, emitted_by, held_at}
use Rattle.histories.specs.Histories.Shares.{share, share_fed}
use Rattle.histories.specs.Histories.NodeLaws.{NodeLaw}
use Rattle.histories.specs.Histories.{alone, without, held_entries, initial_state, take_state, give_state, next_state, IsGive, IsAllowed, state_after, IsLegal}
use Rattle.update.proofs.SumLemmas.{total_by-append}
use Rattle.histories.proofs.HistoryLemmas.FlowLemmas.{as_of-append, measure_place-append, taken, queued, among_left, is_passed, not_beyond}
use Rattle.plan.proofs.OperatorLemmas.{given_nothing}
use Rattle.plan.specs.Nodes.{key_width, is_input}

-- how many of the updates pass a test
abbrev marked : {T : Type 0} → (Update T → Bool) → List (Update T) → ℕ
marked test [] = 0
marked test (u ∷ us) = cond (test u) 1 0 + marked test us

marked_is : {T : Type 0} (test : Update T → Bool) (us : List (Update T)) → total_by (λ u. cond (test u) (pos 1) (pos 0)) us ≡ pos (marked test us)
marked_is test [] = refl
marked_is test (u ∷ us) = step (test u) (marked_is test us)
  where
    step : (b : Bool) → total_by (λ v. cond (test v) (pos 1) (pos 0)) us ≡ pos (marked test us) → cond b (pos 1) (pos 0) +ℤ total_by (λ v. cond (test v) (pos 1) (pos 0)) us ≡ pos (cond b 1 0 + marked test us)
    step true h = rw h refl
    step false h = rw h refl

marked_same : {T : Type 0} (test : Update T → Bool) (us vs : List (Update T)) → ((f : Update T → ℤ) → total_by f us ≡ total_by f vs) → marked test us ≡ marked test vs
marked_same test us vs h =
    let a = marked_is test us in
    let b = marked_is test vs in
    let e = h (λ u. cond (test u) (pos 1) (pos 0)) in
    omega (arith, ints)

-- two lists with equal totals are both empty or neither
pub no_totals : {T : Type 0} (us vs : List (Update T)) → ((f : Update T → ℤ) → total_by f us ≡ total_by f vs) → vs ≡ [] → us ≡ []
no_totals [] vs h e = refl
no_totals (u ∷ us) vs h e =
    let a = marked_same (λ x. true) (u ∷ us) vs h ∙ ap (marked (λ x. true)) e in
    absurd (omega arith)

-- all that was ever sent or fed to a place
abbrev pub coming : {T : Type 0} → Dataflow → Site → List (Emission T) → List (Fed T) → List (Update T)
coming p site gs fs = flat_map (share p site) gs ++ flat_map (share_fed p site) fs

-- every emission is of a worker that exists
abbrev pub AreWorkers : {T : Type 0} → ℕ → List (Emission T) → Type 0
AreWorkers n [] = Unit {0}
AreWorkers n (g ∷ gs) = (g.worker < n) × AreWorkers n gs

-- every change is of an input that exists
abbrev pub AreInputs : {T : Type 0} → Dataflow → List (Fed T) → Type 0
AreInputs p [] = Unit {0}
AreInputs p (f ∷ fs) = IsTrue (is_input (node_of p f.input)) × AreInputs p fs

-- each update of the bundle is beyond its stamp
abbrev pub is_stamped : {T : Type 0} → Times T → Bundle T → Bool
is_stamped times b = all_beyond times b.stamp (update_times b.updates)

-- the invariant of legal histories
pub record IsKept {T : Type 0} (times : Times T) (p : Dataflow) (w : State T) : Type 0 where
  -- what was received at a place, and what is in flight there, are together what came
  pub conserved : (site : Site) (f : Update T → ℤ) → total_by f (updates_at site w.received) +ℤ total_by f (updates_at site w.in_flight) ≡ total_by f (coming p site w.emitted w.fed)
  pub law : (n k : ℕ) → NodeLaw times p w n k
  pub workers : AreWorkers p.workers w.emitted
  pub inputs : AreInputs p w.fed
  -- each update in flight is beyond its bundle's stamp
  pub stamped : IsTrue (list_all (is_stamped times) w.in_flight)

-- at a time that a list has passed, no update of it counts
pub as_of-passed : {T : Type 0} (times : Times T) (t : T) (us : List (Update T)) → is_beyond times (update_times us) t ≡ false → as_of times t us ≡ []
as_of-passed times t [] h = refl
as_of-passed times t (u ∷ us) h =
    let b = or_parts (times.below u.time t) (is_beyond times (update_times us) t) h in
    rw b.0 (as_of-passed times t us b.1)

-- the times that are noted for a worker and a node are those that it holds there
pub held_marked : {T : Type 0} (n k a b : ℕ) (ts : List T) → (eqb a n && eqb b k) ≡ true → held_at n k (held_entries a b ts) ≡ ts
held_marked n k a b [] h = refl
held_marked n k a b (t ∷ ts) h = rw h (ap (λ z. t ∷ z) (held_marked n k a b ts h))

-- times that are noted for another worker or node do not count
pub held_unmarked : {T : Type 0} (n k a b : ℕ) (ts : List T) → (eqb a n && eqb b k) ≡ false → held_at n k (held_entries a b ts) ≡ []
held_unmarked n k a b [] h = refl
held_unmarked n k a b (t ∷ ts) h = rw h (held_unmarked n k a b ts h)

-- dropping what one worker holds at one node changes nothing that another holds, or that it holds
-- elsewhere
pub held_kept : {T : Type 0} (n k a b : ℕ) (ms : List (HeldTime T)) → (eqb a n && eqb b k) ≡ false → held_at n k (filter (λ m. not (eqb m.node a && eqb m.worker b)) ms) ≡ held_at n k ms
held_kept n k a b [] h = refl
held_kept {T} n k a b (m ∷ ms) h = step (eqb m.node a && eqb m.worker b) refl (held_kept n k a b ms h)
  where
    step : (c : Bool) → (eqb m.node a && eqb m.worker b) ≡ c → held_at n k (filter (λ m. not (eqb m.node a && eqb m.worker b)) ms) ≡ held_at n k ms
        → held_at n k (cond (not c) (m ∷ filter (λ m. not (eqb m.node a && eqb m.worker b)) ms) (filter (λ m. not (eqb m.node a && eqb m.worker b)) ms)) ≡ held_at n k (m ∷ ms)
    step true e ih =
        let q = and_parts (eqb m.node a) (eqb m.worker b) e in
        rw (eqb-true m.node a q.0, eqb-true m.worker b q.1, h) ih
    step false e ih = ap (λ z. cond (eqb m.node n && eqb m.worker k) (m.time ∷ []) [] ++ z) ih

module _ {T : Type 0} (times : Times T) (o : PartialOrderLaws times) (p : Dataflow) where
  feed_sum : (r f s e d : ℤ) → r +ℤ f ≡ e +ℤ d → r +ℤ (f +ℤ (s +ℤ pos 0)) ≡ e +ℤ (s +ℤ d)
  feed_sum r f s e d h = omega (arith, ints)

  take_sum : (r f u w c : ℤ) → r +ℤ f ≡ c → f ≡ u +ℤ w → (u +ℤ r) +ℤ w ≡ c
  take_sum r f u w c h k = omega (arith, ints)

  give_sum : (r f s e d : ℤ) → r +ℤ f ≡ e +ℤ d → r +ℤ (f +ℤ s) ≡ (s +ℤ e) +ℤ d
  give_sum r f s e d h = omega (arith, ints)

  held_parts : (n k : ℕ) (xs ys : List (HeldTime T)) (t : T) → is_beyond times (held_at n k (xs ++ ys)) t ≡ false → (is_beyond times (held_at n k xs) t ≡ false) × (is_beyond times (held_at n k ys) t ≡ false)
  held_parts n k xs ys t h =
      or_parts (is_beyond times (held_at n k xs) t) (is_beyond times (held_at n k ys) t)
      (sym (list_any-append (λ f. times.below f t) (held_at n k xs) (held_at n k ys)) ∙ (ap (λ z. is_beyond times z t) (sym (flat_map-append (λ (m : HeldTime T). cond (eqb m.node n && eqb m.worker k) (m.time ∷ []) []) xs ys)) ∙ h))

  -- at a time that a bundle's stamp has passed, the bundle adds nothing at any place
  not_there : (b : Bundle T) → is_stamped times b ≡ true → (n m port : ℕ) (t : T) → is_beyond times (held_at n m (held_entries b.place.node b.place.worker b.stamp)) t ≡ false → as_of times t (cond (same_place b.place (place n port m)) b.updates []) ≡ []
  not_there b a n m port t h = step (same_place b.place (place n port m)) refl
    where
      step : (c : Bool) → same_place b.place (place n port m) ≡ c → as_of times t (cond c b.updates []) ≡ []
      step false e = refl
      step true e =
          let q = and_parts (eqb b.place.node n) (eqb b.place.port port && eqb b.place.worker m) e in
          let q1 = and_parts (eqb b.place.port port) (eqb b.place.worker m) q.1 in
          let there = held_marked n m b.place.node b.place.worker b.stamp (and_from (eqb b.place.node n) (eqb b.place.worker m) q.0 q1.1) in
          as_of-passed times t b.updates (beyond_passed times o b.stamp (update_times b.updates) t a (subst (λ z. is_beyond times z t ≡ false) there h))

  -- if bundles in flight are stamped and those added are too, all are
  stamped_more : (xs ys : List (Bundle T)) → list_all (is_stamped times) xs ≡ true → list_all (is_stamped times) ys ≡ true → list_all (is_stamped times) (xs ++ ys) ≡ true
  stamped_more xs ys a b = list_all-append (is_stamped times) xs ys ∙ and_from (list_all (is_stamped times) xs) (list_all (is_stamped times) ys) a b

  stamped_alone : (f : Fed T) → list_all (is_stamped times) (alone p f ∷ []) ≡ true
  stamped_alone f = and_from (all_beyond times (f.update.time ∷ []) (f.update.time ∷ [])) true (beyond_itself o (f.update.time ∷ [])) refl

  stamped_sent : (F : List T) (sent : List (Bundle T)) → list_all (λ b. all_beyond times F b.stamp && all_beyond times b.stamp (update_times b.updates)) sent ≡ true → list_all (is_stamped times) sent ≡ true
  stamped_sent F sent a = all_from (is_stamped times) sent (λ b m. (and_parts (all_beyond times F b.stamp) (is_stamped times b) (all_at (λ b. all_beyond times F b.stamp && all_beyond times b.stamp (update_times b.updates)) sent b a m)).1)

  kept_feed : (w : State T) (c : ℕ) (f : Fed T) → IsTrue (is_input (node_of p f.input)) → IsKept times p w → IsKept times p (next_state times p w (Feed c f))
  kept_feed w c f i k = record { conserved = conserved; law = k.law; workers = k.workers; inputs = (i, k.inputs); stamped = stamped_more w.in_flight (alone p f ∷ []) k.stamped (stamped_alone f) }
    where
      conserved : (site : Site) (v : Update T → ℤ) → total_by v (updates_at site w.received) +ℤ total_by v (updates_at site (w.in_flight ++ alone p f ∷ [])) ≡ total_by v (coming p site w.emitted (f ∷ w.fed))
      conserved site v =
          let es = flat_map (share p site) w.emitted in
          let fs = flat_map (share_fed p site) w.fed in
          let before = k.conserved site v ∙ total_by-append v es fs in
          rw (
            measure_place-append v site w.in_flight (alone p f ∷ []),
            total_by-append v (share_fed p site f) [],
            total_by-append v es (share_fed p site f ++ fs),
            total_by-append v (share_fed p site f) fs,
          )
          (feed_sum (total_by v (updates_at site w.received)) (total_by v (updates_at site w.in_flight)) (total_by v (share_fed p site f)) (total_by v es) (total_by v fs) before)

  kept_took : (w : State T) (j : ℕ) (b : Bundle T) → slice_get (queue b.place w.in_flight) j ≡ Some b → IsKept times p w → IsKept times p (take_state times p w j b)
  kept_took w j b e k = record { conserved = conserved; law = law; workers = k.workers; inputs = k.inputs; stamped = all_from (is_stamped times) (without b.place w.in_flight j) (λ x m. all_at (is_stamped times) w.in_flight x k.stamped (among_left b.place w.in_flight j x m)) }
    where
      conserved : (other : Site) (v : Update T → ℤ) → total_by v (updates_at other (b ∷ w.received)) +ℤ total_by v (updates_at other (without b.place w.in_flight j)) ≡ total_by v (coming p other w.emitted w.fed)
      conserved other v =
          rw (total_by-append v (cond (same_place b.place other) b.updates []) (updates_at other w.received))
          (take_sum (total_by v (updates_at other w.received)) (total_by v (updates_at other w.in_flight)) (total_by v (cond (same_place b.place other) b.updates [])) (total_by v (updates_at other (without b.place w.in_flight j))) (total_by v (coming p other w.emitted w.fed))
          (k.conserved other v) (taken v b.place w.in_flight j b e other))

      stamped : is_stamped times b ≡ true
      stamped = all_at (is_stamped times) w.in_flight b k.stamped (queued b.place w.in_flight j b e).0

      law : (n m : ℕ) → NodeLaw times p (take_state times p w j b) n m
      law n m t h r =
          let hp = held_parts n m w.held (held_entries b.place.node b.place.worker b.stamp) t (not_beyond _ h) in
          let same : (port : ℕ) → as_of times t (updates_at (place n port m) w.received) ≡ as_of times t (updates_at (place n port m) (b ∷ w.received)) =
          λ port. sym (as_of-append times t (cond (same_place b.place (place n port m)) b.updates []) (updates_at (place n port m) w.received) ∙ ap (λ z. z ++ as_of times t (updates_at (place n port m) w.received)) (not_there b stamped n m port t hp.1)) in
          k.law n m t (is_passed _ hp.0) r ∙ ap (λ z. count_of (node_output p n z) r) (fun_ext same)

  kept_gave : (w : State T) (g : Emission T) (held : List T) (sent : List (Bundle T)) → IsGive times p w g held sent → IsKept times p w → IsKept times p (give_state times p w g held sent)
  kept_gave w g held sent a k = record { conserved = conserved; law = law; workers = (a.worker, k.workers); inputs = k.inputs; stamped = stamped_more w.in_flight sent k.stamped (stamped_sent (held_at g.node g.worker w.held) sent a.stamped) }
    where
      conserved : (site : Site) (v : Update T → ℤ) → total_by v (updates_at site w.received) +ℤ total_by v (updates_at site (w.in_flight ++ sent)) ≡ total_by v (coming p site (g ∷ w.emitted) w.fed)
      conserved site v =
          let es = flat_map (share p site) w.emitted in
          let fs = flat_map (share_fed p site) w.fed in
          let before = k.conserved site v ∙ total_by-append v es fs in
          rw (
            measure_place-append v site w.in_flight sent,
            a.whole site v,
            total_by-append v (share p site g ++ es) fs,
            total_by-append v (share p site g) es,
          )
          (give_sum (total_by v (updates_at site w.received)) (total_by v (updates_at site w.in_flight)) (total_by v (share p site g)) (total_by v es) (total_by v fs) before)

      law : (n m : ℕ) → NodeLaw times p (give_state times p w g held sent) n m
      law n m = step (eqb g.node n && eqb g.worker m) refl
        where
          step : (b : Bool) → (eqb g.node n && eqb g.worker m) ≡ b → NodeLaw times p (give_state times p w g held sent) n m
          step true e =
              let q = and_parts (eqb g.node n) (eqb g.worker m) e in
              subst (λ x. NodeLaw times p (give_state times p w g held sent) x m) (eqb-true g.node n q.0) (subst (λ y. NodeLaw times p (give_state times p w g held sent) g.node y) (eqb-true g.worker m q.1) a.law)
          step false e = λ t h r.
              let hp = held_parts n m (held_entries g.node g.worker held) (filter (λ x. not (eqb x.node g.node && eqb x.worker g.worker)) w.held) t (not_beyond _ h) in
              let old : is_beyond times (held_at n m w.held) t ≡ false = subst (λ z. is_beyond times z t ≡ false) (held_kept n m g.node g.worker w.held e) hp.1 in
              ap (λ b. count_of (as_of times t (cond b g.updates [] ++ emitted_by n m w.emitted)) r) e ∙ k.law n m t (is_passed _ old) r

  -- each allowed event keeps the invariant
  pub kept_after : (w : State T) (e : Event T) → IsAllowed times p w e → IsKept times p w → IsKept times p (next_state times p w e)
  kept_after w (Feed c f) a k = kept_feed w c f a.input.1 k
  kept_after w (Advance c i ts) a k = record { conserved = k.conserved; law = k.law; workers = k.workers; inputs = k.inputs; stamped = k.stamped }
  kept_after w (Allow c v ts) a k = record { conserved = k.conserved; law = k.law; workers = k.workers; inputs = k.inputs; stamped = k.stamped }
  kept_after w (Look c) a k = k
  kept_after w (Take j b) a k = let x = kept_took w j b a.waits k in record { conserved = x.conserved; law = x.law; workers = x.workers; inputs = x.inputs; stamped = x.stamped }
  kept_after w (TakeHeld m n) a k = record { conserved = k.conserved; law = k.law; workers = k.workers; inputs = k.inputs; stamped = k.stamped }
  kept_after w (Give g held sent) a k = kept_gave w g held sent a k

  -- the invariant holds before the first event
  pub kept_first : IsKept times p (initial_state times p)
  kept_first = record { conserved = λ site v. refl; law = λ n k t h r. sym (given_nothing (key_width p.nodes (node_of p n)) (node_of p n) r); workers = tt; inputs = tt; stamped = refl }

  -- the invariant holds in every legal history; all promises start from it
  pub kept_state : (h : List (Event T)) → IsLegal times p h → IsKept times p (state_after times p h)
  kept_state [] l = kept_first
  kept_state (e ∷ h) l = kept_after (state_after times p h) e l.0 (kept_state h l.1)
