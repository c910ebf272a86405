-- What a worker may give depends on nothing but what is its own.
use Rattle.std.proofs.Common.{◌≡◌, ℕ, ◌≤◌, Bool, true, false, cond, ◌&&◌, ◌||◌, eqb, not, List, [], ◌∷◌, ◌++◌, IsTrue, sym, refl, ap, ◌∙◌, subst}
use Rattle.std.specs.List.{filter, list_all}
use Rattle.std.proofs.lemmas.Bool.{and_from, eq-eqb}
use Rattle.std.proofs.lemmas.List.{append-nil}
use Rattle.std.proofs.lemmas.List.Concat.{flat_map-append}
use Rattle.lattice.specs.Times.{Times}
use Rattle.lattice.specs.Frontiers.{all_beyond}
use Rattle.update.specs.Bags.{Alike}
use Rattle.update.specs.Updates.{as_of, size, AreApart}
use Rattle.update.specs.declared.change.Update.{Update}
use Rattle.plan.specs.Bounds.{output_bound}
use Rattle.plan.specs.Changes.{has_passed}
use Rattle.histories.specs.declared.event.Bundle.{Bundle}
use Rattle.histories.specs.declared.event.Emission.{Emission}
use Rattle.histories.specs.declared.event.HeldTime.{HeldTime}
use Rattle.histories.specs.Histories.Actors.{IsSameOfWorker, observed_by}
use Rattle.histories.specs.Histories.Dataflows.{Dataflow, node_of, node_output}
use Rattle.histories.specs.Histories.NodeLaws.{NodeLaw, LoadRule, was_passed}
use Rattle.histories.specs.Histories.Shares.{are_stamped}
use Rattle.histories.specs.Histories.States.{State, ObservedFrontier, emitted_by, held_at, update_times}
use Rattle.histories.specs.Histories.{is_held_by, held_entries, IsGive, give_state}
use Rattle.histories.proofs.HistoryLemmas.KeptLemmas.{held_marked}

gone : {T : Type 0} (n k : ℕ) (ms : List (HeldTime T)) → held_at n k (filter (λ m. not (is_held_by n k m)) ms) ≡ []
gone n k [] = refl
gone {T} n k (m ∷ ms) = step (eqb m.node n && eqb m.worker k) refl (gone n k ms)
  where
    step : (b : Bool) → (eqb m.node n && eqb m.worker k) ≡ b → held_at n k (filter (λ m. not (is_held_by n k m)) ms) ≡ []
        → held_at n k (cond (not b) (m ∷ filter (λ m. not (is_held_by n k m)) ms) (filter (λ m. not (is_held_by n k m)) ms)) ≡ []
    step true e h = h
    step false e h = ap (λ b. cond b (m.time ∷ []) [] ++ held_at n k (filter (λ m. not (is_held_by n k m)) ms)) e ∙ h

module _ {T : Type 0} (times : Times T) where
  -- after a give the worker holds just the given times at the node
  held_now : (p : Dataflow) (w : State T) (g : Emission T) (held : List T) (sent : List (Bundle T)) → held_at g.node g.worker (give_state times p w g held sent).held ≡ held
  held_now p w g held sent =
      let rest = filter (λ m. not (is_held_by g.node g.worker m)) w.held in
      flat_map-append (λ (m : HeldTime T). cond (eqb m.node g.node && eqb m.worker g.worker) (m.time ∷ []) []) (held_entries g.node g.worker held) rest
      ∙ (ap (λ ts. ts ++ held_at g.node g.worker rest) (held_marked g.node g.worker g.node g.worker held (and_from (eqb g.node g.node) (eqb g.worker g.worker) (eq-eqb g.node g.node refl) (eq-eqb g.worker g.worker refl)))
      ∙ (ap (λ ts. held ++ ts) (gone g.node g.worker w.held) ∙ append-nil held))

  -- a worker's own takes alone tell what its input frontiers had passed
  passed_by : (n k : ℕ) (observed : List (ObservedFrontier T)) (t : T) → was_passed times n k observed t ≡ was_passed times n k (observed_by k observed) t
  passed_by n k [] t = refl
  passed_by n k (l ∷ observed) t = step (eqb l.worker k) refl (passed_by n k observed t)
    where
      other : (a b : Bool) → ((a && false) && b) ≡ false
      other true b = refl
      other false b = refl

      step : (c : Bool) → eqb l.worker k ≡ c → was_passed times n k observed t ≡ was_passed times n k (observed_by k observed) t
          → (((eqb l.node n && eqb l.worker k) && has_passed times l.frontier t) || was_passed times n k observed t) ≡ was_passed times n k (cond c (l ∷ observed_by k observed) (observed_by k observed)) t
      step true e ih = ap (λ b. ((eqb l.node n && eqb l.worker k) && has_passed times l.frontier t) || b) ih
      step false e ih = ap (λ b. ((eqb l.node n && b) && has_passed times l.frontier t) || was_passed times n k observed t) e ∙ (ap (λ b. b || was_passed times n k observed t) (other (eqb l.node n) (has_passed times l.frontier t)) ∙ ih)

  module _ (p : Dataflow) (w v : State T) (g : Emission T) (ts : List T) (sent : List (Bundle T)) (same : IsSameOfWorker g.worker w v) where
    abbrev n : ℕ
    n = g.node

    abbrev k : ℕ
    k = g.worker

    abbrev was : State T
    was = give_state times p w g ts sent

    abbrev now : State T
    now = give_state times p v g ts sent

    emitted : emitted_by n k was.emitted ≡ emitted_by n k now.emitted
    emitted = ap (λ us. cond (eqb g.node n && eqb g.worker k) g.updates [] ++ us) (sym (same.emitted n))

    held : held_at n k was.held ≡ held_at n k now.held
    held = held_now p w g ts sent ∙ sym (held_now p v g ts sent)

    observed : (t : T) → was_passed times n k w.observed t ≡ was_passed times n k v.observed t
    observed t = passed_by n k w.observed t ∙ (ap (λ os. was_passed times n k os t) (sym same.observed) ∙ sym (passed_by n k v.observed t))

    law : NodeLaw times p was n k → NodeLaw times p now n k
    law old t passed =
        subst (λ (x : List (Update T) × (ℕ → List (Update T))). Alike (as_of times t x.0) (node_output p n (λ port. as_of times t (x.1 port)))) (λ i. (emitted i, λ port. sym (same.received n port) i))
        (old t (ap (λ (hs : List T). has_passed times hs t) held ∙ passed))

    load : LoadRule times p was n k → LoadRule times p now n k
    load old = record {
      within = λ e. subst (λ (x : List (Update T) × (ℕ → List (Update T))). size x.0 ≤ output_bound (node_of p n) 0 (λ port. size (x.1 port))) (λ i. (emitted i, λ port. sym (same.received n port) i)) (old.within e);
      final = λ e. let f = old.final e in record {
        apart = subst (AreApart times) emitted f.apart;
        held = subst (λ (x : List T × List (Update T)). IsTrue (list_all (λ u. has_passed times x.0 u.time) x.1)) (λ i. (held i, emitted i)) f.held;
        observed = subst (λ (x : (T → Bool) × List (Update T)). IsTrue (list_all (λ u. x.0 u.time) x.1)) (λ i. (λ t. observed t i, emitted i)) f.observed;
      };
    }

    -- a give that a worker may make in one state it may make in each state that agrees on what is
    -- its own
    pub give_apart : IsGive times p w g ts sent → IsGive times p v g ts sent
    give_apart a = record {
      worker = a.worker;
      in_hand = same.hand ∙ a.in_hand;
      onward = subst (λ (hs : List T). IsTrue (all_beyond times hs (update_times g.updates ++ ts))) (sym (same.held n)) a.onward;
      law = law a.law;
      load = load a.load;
      whole = a.whole;
      filled = a.filled;
      stamped = subst (λ (hs : List T). IsTrue (are_stamped times hs sent)) (sym (same.held n)) a.stamped;
    }
