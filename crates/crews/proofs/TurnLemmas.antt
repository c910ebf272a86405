-- What the clause of a call in the client's turn says of each way to end.
use Rattle.std.proofs.Common.{◌≡◌, Option, None}
use Rattle.std.specs.Prelude.{Result, Ok, Err, IfOk, IfErr, OnOk, OnErr}
use Rattle.hub.specs.Known.{Known}
use Rattle.update.specs.declared.refusal.Refusal.{Refusal}
use Rattle.histories.specs.declared.event.Event.{Event}
use Rattle.shared_board.specs.declared.event.BoardEvent.{BoardEvent}
use Rattle.shared_board.specs.Calls.{HasLooked, IsAnsweredInTurn, IsDoneInTurn}
use Rattle.shared_board.specs.Tenures.{IsNextTenure}

module _ {T : Type 0} (old new : Known (BoardEvent T)) where
  -- of a change
  pub record AreEnds (event : Event T) (fault : Option Refusal) (Refused : Refusal → Type 0) (r : Result (Unit {0}) Refusal) : Type 0 where
    pub done : OnOk r (IsNextTenure old event new)
    pub accepted : OnOk r (fault ≡ None)
    pub looked : OnErr r (HasLooked old new)
    pub refused : IfErr r Refused

  pub ends_of : (event : Event T) (fault : Option Refusal) (Refused : Refusal → Type 0) (r : Result (Unit {0}) Refusal) → IsDoneInTurn old new event fault Refused r → AreEnds event fault Refused r
  ends_of event fault Refused (Ok x) ends = record { done = ends.0; accepted = ends.1; looked = tt; refused = tt }
  ends_of event fault Refused (Err x) ends = record { done = tt; accepted = tt; looked = ends.0; refused = ends.1 }

  -- of a question
  pub record AreAnswers {A : Type 0} (Found : A → Type 0) (Refused : Refusal → Type 0) (r : Result A Refusal) : Type 0 where
    pub looked : HasLooked old new
    pub found : IfOk r Found
    pub refused : IfErr r Refused

  pub answers_of : {A : Type 0} (Found : A → Type 0) (Refused : Refusal → Type 0) (r : Result A Refusal) → IsAnsweredInTurn old new Found Refused r → AreAnswers Found Refused r
  answers_of Found Refused (Ok x) answer = record { looked = answer.0; found = answer.1; refused = tt }
  answers_of Found Refused (Err x) answer = record { looked = answer.0; found = tt; refused = answer.1 }

-- what each answer shows
pub on_ok_of : {A : Type 0} {Found : A → Type 0} {Shown : Type 0} (r : Result A Refusal) → ((x : A) → Found x → Shown) → IfOk r Found → OnOk r Shown
on_ok_of (Ok x) shows found = shows x found
on_ok_of (Err e) shows found = tt
