-- While the only client does nothing, a quiet board stays as it is.
use Rattle.std.proofs.Common.{◌≡◌, ℕ, suc, ◌<◌, Bool, true, false, cond, not, ◌&&◌, eqb, List, [], ◌∷◌, ◌++◌, IsTrue, sym, refl, ap, ◌∙◌, subst}
use Rattle.std.specs.Prelude.{slice_get}
use Rattle.std.specs.List.{list_all}
use Rattle.std.proofs.lemmas.Bool.{and_parts, and_from, eqb-true, false≢true}
use Rattle.std.proofs.lemmas.Option.{none-some}
use Rattle.lattice.specs.Times.{Times}
use Rattle.lattice.specs.Frontiers.{is_beyond}
use Rattle.antichain.proofs.Lists.{all_at, among_contains}
use Rattle.hub.specs.declared.view.Entry.{Entry}
use Rattle.hub.specs.Histories.{NoneBy}
use Rattle.histories.specs.declared.event.Event.{Event}
use Rattle.histories.specs.declared.event.Event.TheVariants.{Feed, Advance, Allow, Look, Take, TakeHeld, Give}
use Rattle.histories.specs.declared.event.HeldTime.{HeldTime}
use Rattle.histories.specs.Histories.Dataflows.{Dataflow}
use Rattle.histories.specs.Histories.Outstanding.{input_frontier}
use Rattle.histories.specs.Histories.Readings.{IsQuiet}
use Rattle.histories.specs.Histories.States.{State, held_at, queue}
use Rattle.histories.specs.Histories.{IsAllowed, IsLegal, actor_of, next_state}
use Rattle.shared_board.specs.declared.event.BoardEvent.{BoardEvent}
use Rattle.shared_board.specs.Tenures.{AreOn, Opening, events, is_change, left_by}
use Rattle.shared_board.proofs.ActorLemmas.{not_by_others}

module _ {T : Type 0} (times : Times T) (front : ℕ → List T) where
  -- what holds of all held times holds of those of a worker at a node
  all_held : (n k : ℕ) (held : List (HeldTime T)) → list_all (λ m. is_beyond times (front m.node) m.time) held ≡ true → list_all (is_beyond times (front n)) (held_at n k held) ≡ true
  all_held n k [] h = refl
  all_held n k (m ∷ held) h =
      let x = and_parts (is_beyond times (front m.node) m.time) (list_all (λ m. is_beyond times (front m.node) m.time) held) h in
      step (eqb m.node n && eqb m.worker k) refl (all_held n k held x.1) x.0
    where
      step : (c : Bool) → (eqb m.node n && eqb m.worker k) ≡ c → list_all (is_beyond times (front n)) (held_at n k held) ≡ true → is_beyond times (front m.node) m.time ≡ true
          → list_all (is_beyond times (front n)) (cond c (m.time ∷ []) [] ++ held_at n k held) ≡ true
      step true e ih here = and_from (is_beyond times (front n) m.time) (list_all (is_beyond times (front n)) (held_at n k held)) (ap (λ i. is_beyond times (front i) m.time) (sym (eqb-true m.node n (and_parts (eqb m.node n) (eqb m.worker k) e).0)) ∙ here) ih
      step false e ih here = ih

module _ {T : Type 0} (times : Times T) (p : Dataflow) (w : State T) (quiet : IsQuiet times p w) where
  -- on a quiet board nobody but the client may do more than look
  still : (k by actors : ℕ) (e : Event T) → p.workers ≡ k → actors ≡ suc k → actor_of e ≡ by → (IsTrue (is_change e) → by < actors) → (by ≡ k → ⊥) → IsAllowed times p w e → next_state times p w e ≡ w
  still k by actors (Feed c f) workers one own there other allowed = absurd (not_by_others times p w c by k actors workers one allowed.client own (there refl) other)
  still k by actors (Advance c i ts) workers one own there other allowed = absurd (not_by_others times p w c by k actors workers one allowed.client own (there refl) other)
  still k by actors (Allow c v ts) workers one own there other allowed = absurd (not_by_others times p w c by k actors workers one allowed.client own (there refl) other)
  still k by actors (Look c) workers one own there other allowed = refl
  still k by actors (Take number bundle) workers one own there other allowed =
      absurd (none-some bundle (sym (ap (λ bs. slice_get (queue bundle.place bs) number) quiet.in_flight) ∙ allowed.waits))
  still k by actors (TakeHeld c n) workers one own there other allowed =
      let all = all_held times (input_frontier times p w) n c w.held quiet.held in
      let beyond = all_at (is_beyond times (input_frontier times p w n)) (held_at n c w.held) allowed.held all (among_contains allowed.held (held_at n c w.held) allowed.holds) in
      absurd (false≢true (ap not (sym beyond) ∙ allowed.passed))
  still k by actors (Give g ts sent) workers one own there other allowed =
      absurd (none-some g.node (sym (quiet.hand g.worker allowed.worker) ∙ allowed.in_hand))

-- the state stays, whatever others do
pub stays : {T : Type 0} (times : Times T) (p : Dataflow) (t : Opening) (k : ℕ) (others seen : List (Entry (BoardEvent T))) → p.workers ≡ k → t.actors ≡ suc k → NoneBy k others → AreOn t (others ++ seen) → IsLegal times p (events (others ++ seen))
    → IsQuiet times p (left_by times p seen) → left_by times p (others ++ seen) ≡ left_by times p seen
stays times p t k [] seen workers one none on legal quiet = refl
stays times p t k (e ∷ others) seen workers one none on legal quiet =
    let before = stays times p t k others seen workers one none.1 on.1 legal.1 quiet in
    still times p (left_by times p (others ++ seen)) (subst (IsQuiet times p) (sym before) quiet) k e.by t.actors e.event.event workers one on.0.own on.0.actor none.0 legal.0 ∙ before
