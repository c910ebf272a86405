-- Counts that are kept place by place, read as a list of items.
use Rattle.std.specs.Prelude.{◌≡◌, ℕ, ◌+◌, ◌*◌, ◌<◌, ◌≤◌, nat_lt, if◌then◌else◌, List, [], ◌∷◌, ◌++◌, Option, Some, None, Contains, length, slice_index_or}
use Rattle.progress.specs.declared.place.Place.{Place}
use Rattle.progress.specs.declared.place.Place.TheVariants.{Port, Held, Input}
use Rattle.progress.specs.declared.counted.Counted.{Counted}
use Rattle.progress.specs.declared.counts.PlaceCounts.{PlaceCounts}
use Rattle.progress.specs.Several.{items_at}

-- the number of a place: each node has four, its ports 0 and 1, what is held at it, and its
-- frontier
abbrev pub slot : Place → Option ℕ
slot (Port node port) = if nat_lt port 2 then Some (node * 4 + port) else None
slot (Held node) = Some (node * 4 + 2)
slot (Input node) = Some (node * 4 + 3)

module _ {T : Type 0} where
  -- what is counted at these places
  abbrev pub items_in : List (PlaceCounts T) → List (Counted T)
  items_in [] = []
  items_in (p ∷ ps) = items_at p.place p.times ++ items_in ps

  -- each place stands at its number
  abbrev pub IsPlaced : List (PlaceCounts T) → Type 0
  IsPlaced ps = (i : ℕ) (d : PlaceCounts T) → i < length ps → slot (slice_index_or ps i d).place ≡ Some i

  -- none of these items is at one of the first places, so many of them
  abbrev pub AreOthers : ℕ → List (Counted T) → Type 0
  AreOthers len items = (x : Counted T) → Contains items x → (i : ℕ) → slot x.place ≡ Some i → len ≤ i
