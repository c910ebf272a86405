-- The rule of a hub's table.
use Rattle.std.specs.Prelude.{◌≡◌, ℕ, ◌+◌, ◌<◌, ◌⊎◌, true, false, List, [], ◌∷◌, ◌++◌, length, Option, Some}
use mathlib.Core.Option.{some, none}
use lib.ListN.{get_elem?}
use Rattle.atomic_table.specs.Table.{State}
use Rattle.hub.specs.declared.view.Entry.{Entry}
use Rattle.hub.specs.declared.view.View.{View}
use Rattle.hub.specs.Histories.{NoneBy}

module _ {E : Type 0} where
  -- the view of a dealer that has this number
  abbrev pub dealer_view : ℕ → View E
  dealer_view n = record { number = n; deals = true; away = false; seen = [] }

  -- the view of the seat that a table begins with
  abbrev pub first_view : View E
  first_view = dealer_view 0

  -- the view of a dealer that has become a pass
  abbrev pub dealt_view : View E → View E
  dealt_view v = record { number = v.number; deals = false; away = v.away; seen = v.seen }

  -- the view of the dealer after this one
  abbrev pub next_dealer : View E → View E
  next_dealer v = record { number = v.number + 1; deals = true; away = false; seen = [] }

  -- the history is what the view has seen, with entries of other passes alone on top
  abbrev pub Agrees : View E → List (Entry E) → Type 0
  Agrees v history = (others : List (Entry E)) × (history ≡ others ++ v.seen) × NoneBy v.number others

  -- a view among so many: it stands at its number, agrees with the history, and is the last one if
  -- it deals
  pub record IsRight (count : ℕ) (log : List (Entry E)) (id : ℕ) (v : View E) : Type 0 where
    pub numbered : v.number ≡ id
    pub agrees : Agrees v log
    pub deals : v.deals ≡ true → id + 1 ≡ count

  -- what every view says is right
  abbrev pub AllRight : List (View E) → List (Entry E) → Type 0
  AllRight views log = (id : ℕ) (v : View E) → get_elem? views id ≡ some v → IsRight (length views) log id v

  -- no view is away
  abbrev pub NoneAway : List (View E) → Type 0
  NoneAway views = (id : ℕ) (v : View E) → get_elem? views id ≡ some v → v.away ≡ false

  -- only the holder's view is away, and it has seen the whole history
  abbrev pub AwayWith : List (View E) → List (Entry E) → Type 0
  AwayWith views log = (holder : ℕ) × ((id : ℕ) (v : View E) → get_elem? views id ≡ some v → v.away ≡ true → (id ≡ holder) × (v.seen ≡ log))

  -- each entry is by one of the first so many passes
  abbrev pub AllBelow : ℕ → List (Entry E) → Type 0
  AllBelow count [] = Unit {0}
  AllBelow count (e ∷ es) = (e.by < count) × AllBelow count es

module _ {S E : Type 0} (stands : S → List (Entry E) → Type 0) where
  -- the state is at home, and may stand after the history
  abbrev pub IsHome : State (Option S) (View E) → List (Entry E) → Type 0
  IsHome s log = (s.words ≡ 0 ∷ []) × NoneAway s.views × ((x : S) × (s.homes ≡ some (Some x) ∷ []) × stands x log)

  -- the state is away
  abbrev pub IsAway : State (Option S) (View E) → List (Entry E) → Type 0
  IsAway s log = (s.words ≡ 1 ∷ []) × (s.homes ≡ none ∷ []) × AwayWith s.views log

  -- there is one history: all views are right about it, and the state is at home or away
  pub record Kept (s : State (Option S) (View E)) : Type 0 where
    pub log : List (Entry E)
    pub right : AllRight s.views log
    pub below : AllBelow (length s.views) log
    pub place : IsHome s log ⊎ IsAway s log
