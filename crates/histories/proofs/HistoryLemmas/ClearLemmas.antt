-- What a passed frontier says of a node and its ancestors: nothing that counts at the time is in
-- flight, held or open there.
use Rattle.std.proofs.Common.{◌≡◌, ℕ, Bool, true, false, cond, not, ◌&&◌, ◌||◌, List, [], ◌∷◌, ◌++◌, sym, refl, ap, ◌∙◌, subst, eqb}
use Rattle.std.specs.List.{flat_map}
use Rattle.std.proofs.lemmas.Bool.{and_parts, or_parts, or_from, eqb-true}
use Rattle.std.proofs.lemmas.List.Folds.{list_any-append}
use Rattle.lattice.specs.Times.{Times}
use Rattle.lattice.specs.Order.{PartialOrderLaws}
use Rattle.lattice.specs.Frontiers.{is_beyond}
use Rattle.update.specs.Updates.{as_of}
use Rattle.histories.proofs.HistoryLemmas.StampLemmas.{beyond_passed}
use Rattle.histories.specs.declared.event.Bundle.{Bundle}
use Rattle.histories.specs.declared.event.HeldTime.{HeldTime}
use Rattle.histories.specs.Histories.States.{State, place, same_place, update_times, updates_at, held_at}
use Rattle.histories.specs.Histories.Outstanding.{stamps}
use Rattle.histories.proofs.HistoryLemmas.OutstandingLemmas.{held_where, open_where, counted_times}
use Rattle.std.specs.List.{list_all}
use Rattle.std.proofs.lemmas.Bool.{and_from}
use Rattle.plan.specs.Changes.{has_passed}
use Rattle.histories.specs.Histories.Dataflows.{Dataflow, upstream}
use Rattle.histories.specs.Histories.Promises.{IsClearAt}
use Rattle.histories.proofs.HistoryLemmas.FlowLemmas.{as_of-append}
use Rattle.histories.proofs.HistoryLemmas.KeptLemmas.{as_of-passed, is_stamped}

-- nothing that counts at t is still in flight to the node
pub record IsArrived {T : Type 0} (times : Times T) (w : State T) (t : T) (n : ℕ) : Type 0 where
  pub flight : (port k : ℕ) → as_of times t (updates_at (place n port k) w.in_flight) ≡ []

-- nothing that counts at t is in flight to the node, or held there at or before t
pub record IsClear {T : Type 0} (times : Times T) (w : State T) (t : T) (n : ℕ) : Type 0 where
  pub arrived : IsArrived times w t n
  pub held : (k : ℕ) → is_beyond times (held_at n k w.held) t ≡ false

module _ {T : Type 0} (times : Times T) (o : PartialOrderLaws times) (t : T) (test : ℕ → Bool) (m : ℕ) (there : test m ≡ true) where
  -- if the stamps at the nodes that pass have passed t, no update in flight to one of them counts
  -- at t
  pub clear_flight : (qs : List (Bundle T)) → list_all (is_stamped times) qs ≡ true → is_beyond times (flat_map (λ q. cond (test q.place.node) q.stamp []) qs) t ≡ false → (port k : ℕ) → as_of times t (updates_at (place m port k) qs) ≡ []
  clear_flight [] a h port k = refl
  clear_flight (q ∷ qs) a h port k =
      let s = and_parts (is_stamped times q) (list_all (is_stamped times) qs) a in
      let b = or_parts (is_beyond times (cond (test q.place.node) q.stamp []) t) (is_beyond times (flat_map (λ q. cond (test q.place.node) q.stamp []) qs) t)
      (sym (list_any-append (λ f. times.below f t) (cond (test q.place.node) q.stamp []) (flat_map (λ q. cond (test q.place.node) q.stamp []) qs)) ∙ h) in
      as_of-append times t (cond (same_place q.place (place m port k)) q.updates []) (updates_at (place m port k) qs)
      ∙ rw (clear_flight qs s.1 b.1 port k, head s.0 (same_place q.place (place m port k)) refl b.0) refl
    where
      head : is_stamped times q ≡ true → (c : Bool) → same_place q.place (place m port k) ≡ c → is_beyond times (cond (test q.place.node) q.stamp []) t ≡ false → as_of times t (cond c q.updates []) ≡ []
      head s false e g = refl
      head s true e g =
          let n = eqb-true q.place.node m (and_parts (eqb q.place.node m) (eqb q.place.port port && eqb q.place.worker k) e).0 in
          let passes : test q.place.node ≡ true = ap test n ∙ there in
          as_of-passed times t q.updates (beyond_passed times o q.stamp (update_times q.updates) t s (subst (λ b. is_beyond times (cond b q.stamp []) t ≡ false) passes g))

  -- if the times held at the nodes that pass have passed t, no worker holds one at or before t
  -- there
  pub clear_held : (ms : List (HeldTime T)) → is_beyond times (flat_map (λ x. cond (test x.node) (x.time ∷ []) []) ms) t ≡ false → (k : ℕ) → is_beyond times (held_at m k ms) t ≡ false
  clear_held [] h k = refl
  clear_held (x ∷ ms) h k =
      let b = or_parts (is_beyond times (cond (test x.node) (x.time ∷ []) []) t) (is_beyond times (flat_map (λ x. cond (test x.node) (x.time ∷ []) []) ms) t)
      (sym (list_any-append (λ f. times.below f t) (cond (test x.node) (x.time ∷ []) []) (flat_map (λ x. cond (test x.node) (x.time ∷ []) []) ms)) ∙ h) in
      list_any-append (λ f. times.below f t) (cond (eqb x.node m && eqb x.worker k) (x.time ∷ []) []) (held_at m k ms)
      ∙ or_from (is_beyond times (cond (eqb x.node m && eqb x.worker k) (x.time ∷ []) []) t) (is_beyond times (held_at m k ms) t) (head (eqb x.node m && eqb x.worker k) refl b.0) (clear_held ms b.1 k)
    where
      head : (c : Bool) → (eqb x.node m && eqb x.worker k) ≡ c → is_beyond times (cond (test x.node) (x.time ∷ []) []) t ≡ false → is_beyond times (cond c (x.time ∷ []) []) t ≡ false
      head false e g = refl
      head true e g =
          let n = eqb-true x.node m (and_parts (eqb x.node m) (eqb x.worker k) e).0 in
          let passes : test x.node ≡ true = ap test n ∙ there in
          subst (λ b. is_beyond times (cond b (x.time ∷ []) []) t ≡ false) passes g

module _ {T : Type 0} (times : Times T) (o : PartialOrderLaws times) (t : T) (there holding : ℕ → Bool) (w : State T) where
  -- if all that counts has passed the time, so has each of the three logs
  pub counted_parts : is_beyond times (counted_times w there holding) t ≡ false
      → (is_beyond times (stamps (λ site. there site.node) w.in_flight) t ≡ false) × (is_beyond times (held_where holding w.held) t ≡ false) × (is_beyond times (open_where there w.open_times) t ≡ false)
  counted_parts h =
      let a = stamps (λ site. there site.node) w.in_flight in
      let b = held_where holding w.held in
      let c = open_where there w.open_times in
      let f = or_parts (is_beyond times a t) (is_beyond times (b ++ c) t) (sym (list_any-append (λ f. times.below f t) a (b ++ c)) ∙ h) in
      let g = or_parts (is_beyond times b t) (is_beyond times c t) (sym (list_any-append (λ f. times.below f t) b c) ∙ f.1) in
      (f.0, g.0, g.1)

  -- if a frontier has passed a time, all that counts at or before it has arrived at the nodes
  -- counted
  pub arrived_passed : list_all (is_stamped times) w.in_flight ≡ true → is_beyond times (counted_times w there holding) t ≡ false → (m : ℕ) → there m ≡ true → IsArrived times w t m
  arrived_passed a h m e = record { flight = clear_flight times o t there m e w.in_flight a (counted_parts h).0 }

  -- if a frontier has passed a time, nothing at or before it is in flight or held at the nodes
  -- counted
  pub clear_passed : list_all (is_stamped times) w.in_flight ≡ true → is_beyond times (counted_times w there holding) t ≡ false → (m : ℕ) → there m ≡ true → holding m ≡ true → IsClear times w t m
  clear_passed a h m e f = record { arrived = arrived_passed a h m e; held = clear_held times o t holding m f w.held (counted_parts h).1 }

-- If a frontier has passed a time, nothing is outstanding at or before it

module _ {T : Type 0} (times : Times T) (o : PartialOrderLaws times) (t : T) where
  abbrev is_clear : (ℕ → Bool) → Bundle T → Bool
  is_clear there b = not (there b.place.node) || (has_passed times b.stamp t && has_passed times (update_times b.updates) t)

  no_bundle : (there : ℕ → Bool) (qs : List (Bundle T)) → list_all (is_stamped times) qs ≡ true → is_beyond times (stamps (λ site. there site.node) qs) t ≡ false → list_all (is_clear there) qs ≡ true
  no_bundle there [] a h = refl
  no_bundle there (b ∷ qs) a h =
      let s = and_parts (is_stamped times b) (list_all (is_stamped times) qs) a in
      let g = or_parts (is_beyond times (cond (there b.place.node) b.stamp []) t) (is_beyond times (stamps (λ site. there site.node) qs) t)
      (sym (list_any-append (λ f. times.below f t) (cond (there b.place.node) b.stamp []) (stamps (λ site. there site.node) qs)) ∙ h) in
      and_from (is_clear there b) (list_all (is_clear there) qs) (one s.0 (there b.place.node) g.0) (no_bundle there qs s.1 g.1)
    where
      one : is_stamped times b ≡ true → (c : Bool) → is_beyond times (cond c b.stamp []) t ≡ false → (not c || (has_passed times b.stamp t && has_passed times (update_times b.updates) t)) ≡ true
      one s true k = and_from (has_passed times b.stamp t) (has_passed times (update_times b.updates) t) (ap not k) (ap not (beyond_passed times o b.stamp (update_times b.updates) t s k))
      one s false k = refl

  -- no held time that counts, and no element of an input's frontier that counts, is at or before
  -- the time
  none_of : {X : Type 0} (there : X → Bool) (time : X → T) (xs : List X) → is_beyond times (flat_map (λ x. cond (there x) (time x ∷ []) []) xs) t ≡ false → list_all (λ x. not (there x && times.below (time x) t)) xs ≡ true
  none_of there time [] h = refl
  none_of {X} there time (x ∷ xs) h =
      let g = or_parts (is_beyond times (cond (there x) (time x ∷ []) []) t) (is_beyond times (flat_map (λ x. cond (there x) (time x ∷ []) []) xs) t)
      (sym (list_any-append (λ f. times.below f t) (cond (there x) (time x ∷ []) []) (flat_map (λ x. cond (there x) (time x ∷ []) []) xs)) ∙ h) in
      and_from (not (there x && times.below (time x) t)) (list_all (λ x. not (there x && times.below (time x) t)) xs) (one (there x) g.0) (none_of there time xs g.1)
    where
      one : (c : Bool) → is_beyond times (cond c (time x ∷ []) []) t ≡ false → not (c && times.below (time x) t) ≡ true
      one true k = ap not (or_parts (times.below (time x) t) false k).0
      one false k = refl

-- if all that counts has passed a time, nothing is outstanding at or before it, at one node
pub lurks_lem : {T : Type 0} (times : Times T) → PartialOrderLaws times → (p : Dataflow) (w : State T) (n : ℕ) (holding : ℕ → Bool) (t : T) → list_all (is_stamped times) w.in_flight ≡ true
    → is_beyond times (counted_times w (upstream p n) holding) t ≡ false → IsClearAt times p w n holding t
lurks_lem times o p w n holding t a h =
    let c = counted_parts times o t (upstream p n) holding w h in
    record {
      in_flight = no_bundle times o t (upstream p n) w.in_flight a c.0;
      held = none_of times o t (λ m. holding m.node) (λ m. m.time) w.held c.1;
      inputs = none_of times o t (λ e. upstream p n e.input) (λ e. e.time) w.open_times c.2;
    }
