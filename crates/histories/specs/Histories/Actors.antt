-- What belongs to one worker, and what belongs to the clients. The theorems say that an event of
-- anyone else leaves it as it was, so a worker need not look at the board for what is its own.
use Rattle.std.specs.Prelude.{◌≡◌, ℕ, eqb, List}
use Rattle.std.specs.List.{filter}
use Rattle.histories.specs.Histories.States.{State, ObservedFrontier, emitted_by, held_at}
use Rattle.histories.specs.Histories.NodeLaws.{received_at}

module _ {T : Type 0} where
  -- the input frontiers that a worker's takes recorded
  abbrev pub observed_by : ℕ → List (ObservedFrontier T) → List (ObservedFrontier T)
  observed_by k observed = filter (λ l. eqb l.worker k) observed

  -- the two states agree on all that is worker k's: what it received, gave, holds and has in hand,
  -- and the input frontiers that its takes recorded
  pub record IsSameOfWorker (k : ℕ) (w v : State T) : Type 0 where
    pub received : (n port : ℕ) → received_at v n k port ≡ received_at w n k port
    pub emitted : (n : ℕ) → emitted_by n k v.emitted ≡ emitted_by n k w.emitted
    pub held : (n : ℕ) → held_at n k v.held ≡ held_at n k w.held
    pub hand : v.hand k ≡ w.hand k
    pub observed : observed_by k v.observed ≡ observed_by k w.observed

  -- the two states agree on all that is the clients': the changes fed, the frontiers of the inputs,
  -- and the sinces of the views
  pub record IsSameOfClients (w v : State T) : Type 0 where
    pub fed : v.fed ≡ w.fed
    pub open_times : v.open_times ≡ w.open_times
    pub since : (view : ℕ) → v.since view ≡ w.since view
