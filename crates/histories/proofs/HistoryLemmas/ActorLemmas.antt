-- An event changes nothing of any worker but its actor, and an event of a worker changes nothing of
-- the clients.
use Rattle.std.proofs.Common.{◌≡◌, ◌≢◌, ℕ, ◌<◌, Bool, true, false, ◌&&◌, eqb, List, [], ◌∷◌, ◌++◌, sym, refl, ap, cond, ◌∙◌, arith}
use Rattle.std.proofs.lemmas.Bool.{eqb-true}
use Rattle.std.proofs.lemmas.List.{append-nil}
use Rattle.std.proofs.lemmas.List.Concat.{flat_map-append}
use Rattle.histories.specs.declared.event.HeldTime.{HeldTime}
use Rattle.histories.specs.declared.event.Event.{Event}
use Rattle.histories.specs.declared.event.Event.TheVariants.{Feed, Advance, Allow, Look, Take, TakeHeld, Give}
use Rattle.histories.specs.Histories.Dataflows.{Dataflow}
use Rattle.histories.specs.Histories.States.{State, held_at}
use Rattle.histories.specs.Histories.{held_entries, next_state, actor_of, IsAllowed}
use Rattle.histories.specs.Histories.Actors.{IsSameOfWorker, IsSameOfClients}
use Rattle.histories.proofs.HistoryLemmas.KeptLemmas.{held_unmarked, held_kept}
use Rattle.lattice.specs.Times.{Times}

another : (a k : ℕ) → a ≢ k → eqb a k ≡ false
another a k ne = step (eqb a k) refl
  where
    step : (b : Bool) → eqb a k ≡ b → b ≡ false
    step true e = absurd (ne (eqb-true a k e))
    step false e = refl

not_both : (a : Bool) → (a && false) ≡ false
not_both true = refl
not_both false = refl

not_there : (a b : Bool) → (a && (b && false)) ≡ false
not_there true b = not_both b
not_there false b = refl

module _ {T : Type 0} (times : Times T) (p : Dataflow) (w : State T) where
  -- the times that another worker comes to hold do not change what this worker holds
  held_before : (n k m a : ℕ) (ts : List T) (ms : List (HeldTime T)) → eqb a k ≡ false → held_at n k (held_entries m a ts ++ ms) ≡ held_at n k ms
  held_before n k m a ts ms e =
      flat_map-append (λ (h : HeldTime T). cond (eqb h.node n && eqb h.worker k) (h.time ∷ []) []) (held_entries m a ts) ms
      ∙ ap (λ z. z ++ held_at n k ms) (held_unmarked n k m a ts (rw e (not_both (eqb m n))))

  held_after : (n k m a : ℕ) (ts : List T) (ms : List (HeldTime T)) → eqb a k ≡ false → held_at n k (ms ++ held_entries m a ts) ≡ held_at n k ms
  held_after n k m a ts ms e =
      flat_map-append (λ (h : HeldTime T). cond (eqb h.node n && eqb h.worker k) (h.time ∷ []) []) ms (held_entries m a ts)
      ∙ (ap (λ z. held_at n k ms ++ z) (held_unmarked n k m a ts (rw e (not_both (eqb m n)))) ∙ append-nil (held_at n k ms))

  -- an event leaves every worker except its actor as it was
  pub worker_apart : (k : ℕ) (e : Event T) → actor_of e ≢ k → IsSameOfWorker k w (next_state times p w e)
  worker_apart k (Feed c f) ne = record { received = λ n port. refl; emitted = λ n. refl; held = λ n. refl; hand = refl; observed = refl }
  worker_apart k (Advance c i ts) ne = record { received = λ n port. refl; emitted = λ n. refl; held = λ n. refl; hand = refl; observed = refl }
  worker_apart k (Allow c v ts) ne = record { received = λ n port. refl; emitted = λ n. refl; held = λ n. refl; hand = refl; observed = refl }
  worker_apart k (Look a) ne = record { received = λ n port. refl; emitted = λ n. refl; held = λ n. refl; hand = refl; observed = refl }
  worker_apart k (Take number bundle) ne = record {
    received = λ n port. rw (another bundle.place.worker k ne, not_there (eqb bundle.place.node n) (eqb bundle.place.port port)) refl;
    emitted = λ n. refl;
    held = λ n. held_after n k bundle.place.node bundle.place.worker bundle.stamp w.held (another bundle.place.worker k ne);
    hand = rw (another k bundle.place.worker (λ e. ne (sym e))) refl;
    observed = rw (another bundle.place.worker k ne) refl;
  }
  worker_apart k (TakeHeld a n) ne = record {
    received = λ m port. refl;
    emitted = λ m. refl;
    held = λ m. refl;
    hand = rw (another k a (λ e. ne (sym e))) refl;
    observed = rw (another a k ne) refl;
  }
  worker_apart k (Give g ts sent) ne = record {
    received = λ n port. refl;
    emitted = λ n. rw (another g.worker k ne, not_both (eqb g.node n)) refl;
    held = λ n. held_before n k g.node g.worker ts _ (another g.worker k ne) ∙ held_kept n k g.node g.worker w.held (rw (another g.worker k ne) (not_both (eqb g.node n)));
    hand = rw (another k g.worker (λ e. ne (sym e))) refl;
    observed = refl;
  }

  -- an event of a worker changes nothing that clients fed, opened or allowed
  pub clients_apart : (e : Event T) → IsAllowed times p w e → actor_of e < p.workers → IsSameOfClients w (next_state times p w e)
  clients_apart (Feed c f) a l = let m = a.client in absurd (omega arith)
  clients_apart (Advance c i ts) a l = let m = a.client in absurd (omega arith)
  clients_apart (Allow c v ts) a l = let m = a.client in absurd (omega arith)
  clients_apart (Look c) a l = record { fed = refl; open_times = refl; since = λ v. refl }
  clients_apart (Take number bundle) a l = record { fed = refl; open_times = refl; since = λ v. refl }
  clients_apart (TakeHeld k n) a l = record { fed = refl; open_times = refl; since = λ v. refl }
  clients_apart (Give g ts sent) a l = record { fed = refl; open_times = refl; since = λ v. refl }
