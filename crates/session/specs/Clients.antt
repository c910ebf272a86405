-- What a call of a client adds to what it has seen, whether it waits or not.
use Rattle.std.specs.Prelude.{◌≡◌, ◌↔◌, ℕ, ℤ, Bool, List, [], Option, None, Result, IsTrue}
use Rattle.std.specs.declared.cmp.Ordering.{Ordering}
use Rattle.antichain.specs.Antichains.{SameElements}
use Rattle.update.specs.Bags.{Entry}
use Rattle.update.specs.Refusals.{IsRefusalBy}
use Rattle.update.specs.declared.refusal.Refusal.{Refusal}
use Rattle.update.specs.declared.refusal.Refusal.TheVariants.{OutOfMemory}
use Rattle.hub.specs.Known.{Known}
use Rattle.histories.specs.declared.event.Event.{Event}
use Rattle.histories.specs.declared.event.Event.TheVariants.{Advance, Allow, Feed}
use Rattle.histories.specs.declared.event.Fed.{Fed}
use Rattle.histories.specs.Histories.States.{change_to}
use Rattle.shared_board.specs.declared.event.BoardEvent.{BoardEvent}
use Rattle.shared_board.specs.Calls.{IsRead}
use Rattle.shared_board.specs.Found.{IsReadRefusalFound, WasQuiet, WasTooLarge, feed_refusal_found, frontier_found}
use Rattle.shared_board.specs.Tenures.{advance_refusal_in, allow_refusal_in, state_found}
use Rattle.lattice.specs.Times.{Times}

-- a row of these columns at a time, so many times more
abbrev pub row_fed : {T : Type 0} → ℕ → List ℤ → T → ℤ → Fed T
row_fed input columns time diff = change_to input (record { row = columns; time = time; diff = diff })

-- how a change ends, by its event, its fault in what was found, and its refusals: without waiting
-- (IsDone), or in the client's turn (IsDoneInTurn)
abbrev pub Change : Type 0 → Type 1
Change T = Event T → Option Refusal → (Refusal → Type 0) → Result (Unit {0}) Refusal → Type 0

-- how a question ends, by what its answers and its refusals mean: IsAnswered, or IsAnsweredInTurn
abbrev pub Question : Type 0 → Type 1
Question A = (A → Type 0) → (Refusal → Type 0) → Result A Refusal → Type 0

module _ {T : Type 0} (times : Times T) (old new : Known (BoardEvent T)) where
  -- a change
  abbrev pub IsFed : Change T → Fed T → Result (Unit {0}) Refusal → Type 0
  IsFed Ends f r = Ends (Feed old.number f) (feed_refusal_found times old new f)
      (IsRefusalBy (feed_refusal_found times old new f)) r

  -- a new frontier of an input
  abbrev pub IsAdvanced : Change T → ℕ → List T → Result (Unit {0}) Refusal → Type 0
  IsAdvanced Ends input ts r =
      let fault = advance_refusal_in times (state_found times new) input ts in
      Ends (Advance old.number input ts) fault (IsRefusalBy fault) r

  -- a closed input
  abbrev pub IsClosed : Change T → ℕ → Result (Unit {0}) Refusal → Type 0
  IsClosed Ends input r = Ends (Advance old.number input []) None (λ refusal. ⊥) r

  -- a new since of a view
  abbrev pub IsGivenUp : Change T → ℕ → List T → Result (Unit {0}) Refusal → Type 0
  IsGivenUp Ends view ts r =
      let fault = allow_refusal_in times (state_found times new) view ts in
      Ends (Allow old.number view ts) fault (IsRefusalBy fault) r

  -- a view's frontier, its rows at a time, and its changes
  abbrev pub IsProbed : Question (List T) → ℕ → Result (List T) Refusal → Type 0
  IsProbed Ends view r = Ends (λ found. SameElements found (frontier_found times old new view)) (λ refusal. refusal ≡ OutOfMemory) r

  abbrev pub HasRead : Question (List Entry) → ℕ → T → Result (List Entry) Refusal → Type 0
  HasRead Ends view t r = Ends (IsRead times old new view t) (IsReadRefusalFound times old new view t) r

  -- whether all is quiet, and whether a number is too large
  abbrev pub HasAskedQuiet : Question Bool → Result Bool Refusal → Type 0
  HasAskedQuiet Ends r = Ends (λ quiet. IsTrue quiet ↔ WasQuiet times old new) (λ refusal. ⊥) r

  abbrev pub HasAskedLarge : Question Bool → (T → T → Ordering) → Result Bool Refusal → Type 0
  HasAskedLarge Ends cmp r = Ends (λ large. IsTrue large → WasTooLarge times old new cmp) (λ refusal. ⊥) r
