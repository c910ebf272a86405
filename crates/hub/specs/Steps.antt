-- What each of the two kinds of atomic step tells the thread that makes it.
use Rattle.std.specs.Prelude.{◌≡◌, ◌≢◌, ℕ, true, false, List, [], ◌∷◌, ◌++◌, Option, Some, None}
use Rattle.atomic_table.specs.Table.{Me, Step}
use Rattle.hub.specs.declared.view.Entry.{Entry}
use Rattle.hub.specs.declared.view.View.{View}
use Rattle.hub.specs.Histories.{entry, NoneBy}

module _ {S E : Type 0} (stands : S → List (Entry E) → Type 0) where
  -- a view that holds this state has seen entries of other passes on top of what it had seen, and
  -- the state may stand there
  abbrev pub Finds : View E → S → View E → Type 0
  Finds v x w = (others : List (Entry E)) × (w ≡ record { number = v.number; deals = v.deals; away = true; seen = others ++ v.seen }) × NoneBy v.number others × stands x w.seen

  -- a step that found the word at home has the state, and any other has changed nothing
  abbrev pub AfterTake : Step (Option S) → Me (Option S) (View E) → ℕ → Me (Option S) (View E) → Type 0
  AfterTake st me found after = (found ≡ 0 → (x : S) × (after.1 ≡ (0, Some x) ∷ me.1) × Finds me.0 x after.0) × (found ≢ 0 → after ≡ me)

module _ {S E : Type 0} (last : S → E) where
  -- the view once the state was given back: its event is the newest entry
  abbrev pub given_view : View E → S → View E
  given_view v x = record { number = v.number; deals = v.deals; away = false; seen = entry v.number (last x) ∷ v.seen }

  -- the seat has given back the state that it took last
  abbrev pub GivesBack : View E → List (ℕ × Option S) → Me (Option S) (View E) → Type 0
  GivesBack v [] after = Unit {0}
  GivesBack v ((k, None) ∷ cs) after = Unit {0}
  GivesBack v ((k, Some x) ∷ cs) after = after ≡ (given_view v x, cs)

  -- a step that gives back adds the event that the state names
  abbrev pub AfterGive : Step (Option S) → Me (Option S) (View E) → ℕ → Me (Option S) (View E) → Type 0
  AfterGive st me found after = GivesBack me.0 me.1 after
