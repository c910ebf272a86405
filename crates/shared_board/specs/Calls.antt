-- How a call of an actor ends, in the words of its clause: of the actor as it was before the call,
-- and as it is then. A call that waits has its turn. One that does not may find the board away.
use Rattle.std.specs.Prelude.{◌≡◌, ◌⊎◌, ℕ, List, Option, None, Result, Ok, Err}
use Rattle.std.specs.declared.cmp.Ordering.{Ordering}
use Rattle.update.specs.Bags.{Alike, Entry, IsBag}
use Rattle.update.specs.declared.change.Update.{Update}
use Rattle.update.specs.declared.refusal.Refusal.{Refusal}
use Rattle.update.specs.declared.refusal.Refusal.TheVariants.{Busy}
use Rattle.hub.specs.Known.{Known}
use Rattle.histories.specs.declared.event.Event.{Event}
use Rattle.histories.specs.declared.event.Event.TheVariants.{Look}
use Rattle.shared_board.specs.declared.event.BoardEvent.{BoardEvent}
use Rattle.shared_board.specs.Found.{AreDifferencesFound, changes_refusal_found, query_found, read_refusal_found}
use Rattle.shared_board.specs.Tenures.{IsNextTenure}
use Rattle.lattice.specs.Times.{Times}

module _ {T : Type 0} (old new : Known (BoardEvent T)) where
  -- another actor had the board, and this one has seen nothing
  abbrev pub IsBusy : Refusal → Type 0
  IsBusy refusal = (refusal ≡ Busy) × (new ≡ old)

  -- the actor looked, and did nothing else
  abbrev pub HasLooked : Type 0
  HasLooked = IsNextTenure old (Look old.number) new

  -- a change, in the actor's turn. Ok: it was done, and nothing refuses it in what was found. Err:
  -- it is refused there, and the actor looked
  abbrev pub IsDoneInTurn : Event T → Option Refusal → (Refusal → Type 0) → Result (Unit {0}) Refusal → Type 0
  IsDoneInTurn event fault Refused (Ok done) = IsNextTenure old event new × (fault ≡ None)
  IsDoneInTurn event fault Refused (Err refusal) = HasLooked × Refused refusal

  -- a question, in the actor's turn: it looked. Ok: the answer is right for what was found. Err:
  -- the question is refused there
  abbrev pub IsAnsweredInTurn : {A : Type 0} → (A → Type 0) → (Refusal → Type 0) → Result A Refusal → Type 0
  IsAnsweredInTurn Found Refused (Ok answer) = HasLooked × Found answer
  IsAnsweredInTurn Found Refused (Err refusal) = HasLooked × Refused refusal

  -- the same without waiting: the board was away, or it was the actor's turn
  abbrev pub IsDone : Event T → Option Refusal → (Refusal → Type 0) → Result (Unit {0}) Refusal → Type 0
  IsDone event fault Refused (Ok done) = IsDoneInTurn event fault Refused (Ok done)
  IsDone event fault Refused (Err refusal) = IsBusy refusal ⊎ IsDoneInTurn event fault Refused (Err refusal)

  abbrev pub IsAnswered : {A : Type 0} → (A → Type 0) → (Refusal → Type 0) → Result A Refusal → Type 0
  IsAnswered Found Refused (Ok answer) = IsAnsweredInTurn Found Refused (Ok answer)
  IsAnswered Found Refused (Err refusal) = IsBusy refusal ⊎ IsAnsweredInTurn Found Refused (Err refusal)

module _ {T : Type 0} (times : Times T) (old new : Known (BoardEvent T)) where
  -- nothing refuses the read of a view at a time, and the bag is the query there
  pub record IsRead (v : ℕ) (t : T) (bag : List Entry) : Type 0 where
    pub accepted : read_refusal_found times old new v t ≡ None
    pub is_bag : IsBag bag
    pub query : Alike bag (query_found times old new v t)

  -- nothing refuses the question for the changes of a view, and the updates are these
  pub record AreListed (cmp : T → T → Ordering) (v : ℕ) (us : List (Update T)) : Type 0 where
    pub accepted : changes_refusal_found times old new v ≡ None
    pub differences : AreDifferencesFound times old new cmp v us
