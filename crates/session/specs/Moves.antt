-- Moves of workers, one after another.
use Rattle.std.specs.Prelude.{◌≡◌, ◌⊎◌, ℕ, List, [], ◌∷◌, Result, Ok, Err, MatchOption, set, slice_get}
use Rattle.std.specs.declared.cmp.Ordering.{Ordering}
use Rattle.update.specs.declared.refusal.Refusal.{Refusal}
use Rattle.steps.specs.Workers.{WorkerView}
use Rattle.steps.specs.Steps.{IsStep, IsStepRefusal, IsTidyRefusal, LooksAtMost}
use Rattle.steps.specs.declared.step.Step.{Step as Stepped}
use Rattle.session.specs.declared.moves.Move.{Move}
use Rattle.session.specs.declared.moves.Move.TheVariants.{Step, Tidy}
use Rattle.lattice.specs.Times.{Times}

-- the place of the worker that moves
abbrev pub place_of : Move → ℕ
place_of (Step worker pick) = worker
place_of (Tidy worker fuel) = worker

module _ {T : Type 0} (times : Times T) (cmp : T → T → Ordering) where
  -- what a worker does at a move, and how that ends
  abbrev pub HasMoved : Move → WorkerView T → WorkerView T → Result (Unit {0}) Refusal → Type 0
  HasMoved (Step worker pick) old new (Ok done) = (step : Stepped) × IsStep times pick old new step
  HasMoved (Step worker pick) old new (Err refusal) = IsStepRefusal times pick cmp old new refusal
  HasMoved (Tidy worker fuel) old new (Ok done) = LooksAtMost old.known new.known × (new.hand ≡ old.hand)
  HasMoved (Tidy worker fuel) old new (Err refusal) = IsTidyRefusal times cmp old new refusal

  -- one move among all workers: the others stay as they are. A move of a worker that is not there
  -- changes nothing
  abbrev pub IsMoved : Move → List (WorkerView T) → List (WorkerView T) → Result (Unit {0}) Refusal → Type 0
  IsMoved m old new r = MatchOption (slice_get old (place_of m)) ((new ≡ old) × (r ≡ Ok tt))
      (λ worker. (moved : WorkerView T) × (new ≡ set old (place_of m) moved) × HasMoved m worker moved r)

  -- moves one after another, up to the first that is refused
  abbrev pub AreMoved : List Move → List (WorkerView T) → List (WorkerView T) → Result (Unit {0}) Refusal → Type 0
  AreMoved [] old new r = (new ≡ old) × (r ≡ Ok tt)
  AreMoved (m ∷ ms) old new r = ((between : List (WorkerView T)) × IsMoved m old between (Ok tt) × AreMoved ms between new r)
      ⊎ ((refusal : Refusal) × (r ≡ Err refusal) × IsMoved m old new r)
