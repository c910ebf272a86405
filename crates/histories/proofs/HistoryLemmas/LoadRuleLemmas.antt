-- The load rule holds at each worker and node after each event, and what a take found passed stays
-- passed. Bounds are kept because of this.
use Rattle.update.proofs.ConsolidatedLemmas.{summed_size, summed_size_is, summed_size-append}
use Rattle.std.proofs.Common.{◌≡◌, ℕ, ◌≤◌, Bool, true, false, cond, not, ◌&&◌, ◌||◌, List, [], ◌∷◌, ◌++◌, sym, refl, ap, ◌∙◌, subst, Some, eqb, arith}
use Rattle.std.specs.List.{filter, slice_get}
use Rattle.std.proofs.lemmas.Bool.{and_parts, or_from, or_right, eqb-true}
use Rattle.std.proofs.lemmas.List.Concat.{flat_map-append}
use Rattle.std.proofs.lemmas.List.Folds.{list_any-append}
use Rattle.lattice.specs.Times.{Times}
use Rattle.lattice.specs.Order.{PartialOrderLaws}
use Rattle.lattice.specs.Frontiers.{is_beyond}
use Rattle.update.specs.declared.change.Update.{Update}
use Rattle.plan.specs.Bounds.{output_bound}
use Rattle.plan.proofs.BoundLemmas.{output_bound-le}
use Rattle.update.specs.Updates.{size, AreApart}
use mathlib.Core.Path.{fun_ext}
use Rattle.histories.specs.declared.event.Bundle.{Bundle}
use Rattle.histories.specs.declared.event.Emission.{Emission}
use Rattle.histories.specs.declared.event.HeldTime.{HeldTime}
use Rattle.histories.specs.declared.event.Event.{Event}
use Rattle.histories.specs.declared.event.Event.TheVariants.{Feed, Advance, Allow, Look, Take, TakeHeld, Give}
use Rattle.histories.specs.Histories.Dataflows.{Dataflow, IsDataflow, node_of}
use Rattle.histories.specs.Histories.States.{State, ObservedFrontier, place, same_place, updates_at, queue, emitted_by, held_at}
use Rattle.histories.specs.Histories.Outstanding.{input_frontier}
use Rattle.histories.specs.Histories.NodeLaws.{received_at, was_passed, IsFinal, IsWithinLoad, LoadRule}
use Rattle.histories.specs.Histories.{with_at, held_entries, initial_state, turn_state, take_state, give_state, next_state, IsGive, IsAllowed, state_after, IsLegal}
use Rattle.histories.proofs.HistoryLemmas.KeptLemmas.{held_marked, held_unmarked, held_kept}
use Rattle.histories.proofs.HistoryLemmas.OnwardLemmas.{input_onward, taken_later}
use Rattle.histories.proofs.HistoryLemmas.PassedLemmas.{AllPassed, AllWere, each_passed, passed_each, each_was, was_each}

-- from the load rule to its inequality of recursive sizes, which arithmetic can use
pub to_size : {T : Type 0} (times : Times T) (p : Dataflow) (w : State T) (n k : ℕ) → IsWithinLoad times p w n k → summed_size (emitted_by n k w.emitted) ≤ output_bound (node_of p n) 0 (λ port. summed_size (received_at w n k port))
to_size times p w n k h =
    let e = summed_size_is (emitted_by n k w.emitted) in
    let f : output_bound (node_of p n) 0 (λ port. summed_size (received_at w n k port)) ≡ output_bound (node_of p n) 0 (λ port. size (received_at w n k port)) = ap (output_bound (node_of p n) 0) (fun_ext (λ port. summed_size_is (received_at w n k port))) in
    omega arith

-- the load rule from the inequality of recursive sizes
pub from_size : {T : Type 0} (times : Times T) (p : Dataflow) (w : State T) (n k : ℕ) → summed_size (emitted_by n k w.emitted) ≤ output_bound (node_of p n) 0 (λ port. summed_size (received_at w n k port)) → IsWithinLoad times p w n k
from_size times p w n k h =
    let e = summed_size_is (emitted_by n k w.emitted) in
    let f : output_bound (node_of p n) 0 (λ port. summed_size (received_at w n k port)) ≡ output_bound (node_of p n) 0 (λ port. size (received_at w n k port)) = ap (output_bound (node_of p n) 0) (fun_ext (λ port. summed_size_is (received_at w n k port))) in
    omega arith

module _ {T : Type 0} (times : Times T) (o : PartialOrderLaws times) (p : Dataflow) (q : IsDataflow p) where
  -- the load rule holds everywhere, and each time that a take found passed is still passed
  pub record IsLoaded (w : State T) : Type 0 where
    pub rule : (n k : ℕ) → LoadRule times p w n k
    pub observed : (n k : ℕ) (t : T) → was_passed times n k w.observed t ≡ true → is_beyond times (input_frontier times p w n) t ≡ false

  passed_still : (n k : ℕ) (F G : List T) (ls : List (ObservedFrontier T)) → ((t : T) → was_passed times n k ls t ≡ true → is_beyond times F t ≡ false → is_beyond times G t ≡ false) → (us : List (Update T)) → AllPassed times F us → AllWere times n k ls us → AllPassed times G us
  passed_still n k F G ls h [] a b = tt
  passed_still n k F G ls h (u ∷ us) a b = (h u.time b.0 a.0, passed_still n k F G ls h us a.1 b.1)

  were_still : (n k : ℕ) (ls ms : List (ObservedFrontier T)) → ((t : T) → was_passed times n k ls t ≡ true → was_passed times n k ms t ≡ true) → (us : List (Update T)) → AllWere times n k ls us → AllWere times n k ms us
  were_still n k ls ms h [] b = tt
  were_still n k ls ms h (u ∷ us) b = (h u.time b.0, were_still n k ls ms h us b.1)

  -- an event keeps the load rule of a worker and node at which it gives nothing
  record IsCarried (w v : State T) (n k : ℕ) : Type 0 where
    emitted : emitted_by n k w.emitted ≡ emitted_by n k v.emitted
    received : (port : ℕ) → summed_size (updates_at (place n port k) w.received) ≤ summed_size (updates_at (place n port k) v.received)
    held : (t : T) → was_passed times n k w.observed t ≡ true → is_beyond times (held_at n k w.held) t ≡ false → is_beyond times (held_at n k v.held) t ≡ false
    observed : (t : T) → was_passed times n k w.observed t ≡ true → was_passed times n k v.observed t ≡ true

  carried : (w v : State T) (n k : ℕ) → IsCarried w v n k → LoadRule times p w n k → LoadRule times p v n k
  carried w v n k c r = record { within = λ e. more (r.within e); final = λ e. final (r.final e) }
    where
      more : IsWithinLoad times p w n k → IsWithinLoad times p v n k
      more h =
          let a = to_size times p w n k h in
          let e = ap summed_size c.emitted in
          let l = output_bound-le (node_of p n) 0 (λ port. summed_size (received_at w n k port)) (λ port. summed_size (received_at v n k port)) (λ port m. c.received port) in
          from_size times p v n k (omega arith)

      final : IsFinal times w n k → IsFinal times v n k
      final h =
          let held = each_passed times (held_at n k w.held) (emitted_by n k w.emitted) h.held in
          let observed = each_was times n k w.observed (emitted_by n k w.emitted) h.observed in
          record {
            apart = subst (AreApart times) c.emitted h.apart;
            held = passed_each times (held_at n k v.held) (emitted_by n k v.emitted) (subst (AllPassed times (held_at n k v.held)) c.emitted (passed_still n k (held_at n k w.held) (held_at n k v.held) w.observed c.held (emitted_by n k w.emitted) held observed));
            observed = was_each times n k v.observed (emitted_by n k v.emitted) (subst (AllWere times n k v.observed) c.emitted (were_still n k w.observed v.observed c.observed (emitted_by n k w.emitted) observed));
          }

  -- a recorded frontier is the take's own, or an earlier one
  observed_now : (v : State T) (n k : ℕ) → ((m j : ℕ) (t : T) → was_passed times m j v.observed t ≡ true → is_beyond times (input_frontier times p v m) t ≡ false)
      → (m j : ℕ) (t : T) → was_passed times m j (turn_state times p v n k).observed t ≡ true → is_beyond times (input_frontier times p v m) t ≡ false
  observed_now v n k old m j t h = step (eqb n m) refl (is_beyond times (input_frontier times p v n) t) refl (eqb k j) h
    where
      step : (a : Bool) → eqb n m ≡ a → (b : Bool) → is_beyond times (input_frontier times p v n) t ≡ b → (c : Bool) → (((a && c) && not b) || was_passed times m j v.observed t) ≡ true → is_beyond times (input_frontier times p v m) t ≡ false
      step true e false f true g = subst (λ x. is_beyond times (input_frontier times p v x) t ≡ false) (eqb-true n m e) f
      step true e false f false g = old m j t g
      step true e true f true g = old m j t g
      step true e true f false g = old m j t g
      step false e b f c g = old m j t g

  loaded_first : IsLoaded (initial_state times p)
  loaded_first = record { rule = λ n k. record { within = λ e. omega arith; final = λ e. record { apart = tt; held = refl; observed = refl } }; observed = λ n k t h. cc }

  same_still : (w v : State T) → v.emitted ≡ w.emitted → v.received ≡ w.received → v.held ≡ w.held → ((n k : ℕ) (t : T) → was_passed times n k w.observed t ≡ true → was_passed times n k v.observed t ≡ true) → ((n k : ℕ) → LoadRule times p w n k) → (n k : ℕ) → LoadRule times p v n k
  same_still w v a b c d h n k =
      carried w v n k (record { emitted = ap (emitted_by n k) (sym a); received = λ port. (let e = ap (λ z. summed_size (updates_at (place n port k) z)) b in omega arith); held = λ t x y. ap (λ z. is_beyond times (held_at n k z) t) c ∙ y; observed = d n k }) (h n k)

  taken_still : (w : State T) (j : ℕ) (b : Bundle T) → slice_get (queue b.place w.in_flight) j ≡ Some b → IsLoaded w → (n k : ℕ) → LoadRule times p (turn_state times p (take_state times p w j b) b.place.node b.place.worker) n k
  taken_still w j b waits l n k =
      carried w v n k (record { emitted = refl; received = received; held = held; observed = λ t h. or_right ((eqb b.place.node n && eqb b.place.worker k) && not (is_beyond times (input_frontier times p (take_state times p w j b) b.place.node) t)) (was_passed times n k w.observed t) h }) (l.rule n k)
    where
      v : State T
      v = turn_state times p (take_state times p w j b) b.place.node b.place.worker

      more : List (HeldTime T)
      more = held_entries b.place.node b.place.worker b.stamp

      received : (port : ℕ) → summed_size (updates_at (place n port k) w.received) ≤ summed_size (updates_at (place n port k) v.received)
      received port = let e = summed_size-append (cond (same_place b.place (place n port k)) b.updates []) (updates_at (place n port k) w.received) in omega arith

      held : (t : T) → was_passed times n k w.observed t ≡ true → is_beyond times (held_at n k w.held) t ≡ false → is_beyond times (held_at n k v.held) t ≡ false
      held t h f =
          ap (λ z. is_beyond times z t) (flat_map-append (λ (m : HeldTime T). cond (eqb m.node n && eqb m.worker k) (m.time ∷ []) []) w.held more)
          ∙ (list_any-append (λ x. times.below x t) (held_at n k w.held) (held_at n k more)
          ∙ or_from (is_beyond times (held_at n k w.held) t) (is_beyond times (held_at n k more) t) f (new (eqb b.place.node n && eqb b.place.worker k) refl))
        where
          new : (c : Bool) → (eqb b.place.node n && eqb b.place.worker k) ≡ c → is_beyond times (held_at n k more) t ≡ false
          new true e = ap (λ z. is_beyond times z t) (held_marked n k b.place.node b.place.worker b.stamp e) ∙ taken_later times o t p q n w j b waits (eqb-true b.place.node n (and_parts (eqb b.place.node n) (eqb b.place.worker k) e).0) (l.observed n k t h)
          new false e = ap (λ z. is_beyond times z t) (held_unmarked n k b.place.node b.place.worker b.stamp e)

  given_still : (w : State T) (g : Emission T) (held : List T) (sent : List (Bundle T)) → IsGive times p w g held sent → IsLoaded w → (n k : ℕ) → LoadRule times p (give_state times p w g held sent) n k
  given_still w g held sent a l n k = step (eqb g.node n && eqb g.worker k) refl
    where
      v : State T
      v = give_state times p w g held sent

      step : (b : Bool) → (eqb g.node n && eqb g.worker k) ≡ b → LoadRule times p v n k
      step true e =
          let x = and_parts (eqb g.node n) (eqb g.worker k) e in
          subst (λ m. LoadRule times p v m k) (eqb-true g.node n x.0) (subst (λ j. LoadRule times p v g.node j) (eqb-true g.worker k x.1) a.load)
      step false e =
          carried w v n k (record { emitted = sym (ap (λ b. cond b g.updates [] ++ emitted_by n k w.emitted) e); received = λ port. omega arith; held = kept; observed = λ t h. h }) (l.rule n k)
        where
          kept : (t : T) → was_passed times n k w.observed t ≡ true → is_beyond times (held_at n k w.held) t ≡ false → is_beyond times (held_at n k v.held) t ≡ false
          kept t h f =
              ap (λ z. is_beyond times z t) (flat_map-append (λ (m : HeldTime T). cond (eqb m.node n && eqb m.worker k) (m.time ∷ []) []) (held_entries g.node g.worker held) (filter (λ m. not (eqb m.node g.node && eqb m.worker g.worker)) w.held))
              ∙ rw (held_unmarked n k g.node g.worker held e, held_kept n k g.node g.worker w.held e) f

  loaded_after : (w : State T) (e : Event T) → IsAllowed times p w e → IsLoaded w → IsLoaded (next_state times p w e)
  loaded_after w (Feed c f) a l = record { rule = same_still w (next_state times p w (Feed c f)) refl refl refl (λ n k t h. h) l.rule; observed = λ n k t h. input_onward times o t p q n w (Feed c f) a (l.observed n k t h) }
  loaded_after w (Advance c i ts) a l = record { rule = same_still w (next_state times p w (Advance c i ts)) refl refl refl (λ n k t h. h) l.rule; observed = λ n k t h. input_onward times o t p q n w (Advance c i ts) a (l.observed n k t h) }
  loaded_after w (Allow c v ts) a l = record { rule = same_still w (next_state times p w (Allow c v ts)) refl refl refl (λ n k t h. h) l.rule; observed = λ n k t h. input_onward times o t p q n w (Allow c v ts) a (l.observed n k t h) }
  loaded_after w (Look c) a l = l
  loaded_after w (Take j b) a l = record { rule = taken_still w j b a.waits l; observed = observed_now (take_state times p w j b) b.place.node b.place.worker (λ m i t h. input_onward times o t p q m w (Take j b) a (l.observed m i t h)) }
  loaded_after w (TakeHeld k n) a l =
      let v : State T = record w { hand = with_at w.hand k (Some n) } in
      record {
        rule = same_still w (next_state times p w (TakeHeld k n)) refl refl refl (λ m j t h. or_right ((eqb n m && eqb k j) && not (is_beyond times (input_frontier times p v n) t)) (was_passed times m j w.observed t) h) l.rule;
        observed = observed_now v n k l.observed;
      }
  loaded_after w (Give g held sent) a l = record { rule = given_still w g held sent a l; observed = λ n k t h. input_onward times o t p q n w (Give g held sent) a (l.observed n k t h) }

  -- the load rule holds in every legal history
  pub loaded_state : (h : List (Event T)) → IsLegal times p h → IsLoaded (state_after times p h)
  loaded_state [] l = loaded_first
  loaded_state (e ∷ h) l = loaded_after (state_after times p h) e l.0 (loaded_state h l.1)
