-- The stations of a board: what a contract sees of them, and where room is reserved. A give
-- reserves room for all its bundles before it puts one, so that it either happens whole or not at
-- all.
use Rattle.std.specs.Prelude.{◌≡◌, ℕ, zero, suc, ◌≤◌, List, [], map, length, get_or, slice_get, ⊤}
use Rattle.std.specs.Option.{IfSome}
use Rattle.histories.specs.declared.event.Site.{Site}
use Rattle.histories.specs.declared.event.Bundle.{Bundle}
use Rattle.outstanding.specs.declared.stations.Station.{Station}
use Rattle.histories.specs.Histories.States.{queue}
use Rattle.outstanding.specs.Loads.{Lot}

module _ {T : Type 0} where
  -- what lies at a station
  abbrev pub lot : Station T → Lot T
  lot s = record { left = s.left.loads; right = s.right.loads; held = s.held }

  -- what lies at all stations, by node and by worker
  abbrev pub lots : List (List (Station T)) → List (List (Lot T))
  lots stations = map (map lot) stations

  -- room is reserved for this many loads at a port of a station
  abbrev pub has_room : ℕ → ℕ → Station T → Type 0
  has_room zero more s = more ≤ s.left.room
  has_room (suc zero) more s = more ≤ s.right.room
  has_room (suc (suc port)) more s = ⊤

  -- room is reserved at a worker's port, if there is such a worker
  abbrev pub RowHasRoom : ℕ → ℕ → ℕ → List (Station T) → Type 0
  RowHasRoom worker port more row = IfSome (slice_get row worker) (has_room port more)

  -- room is reserved at a place, if there is such a place
  abbrev pub HasRoom : ℕ → List (List (Station T)) → Site → Type 0
  HasRoom more stations site = RowHasRoom site.worker site.port more (get_or stations site.node [])

  -- room is reserved at each place for the bundles that go there
  abbrev pub HasRoomFor : List (Bundle T) → List (List (Station T)) → Type 0
  HasRoomFor bundles stations = (site : Site) → HasRoom (length (queue site bundles)) stations site

  -- no room is reserved at a station, or at a place if there is such a place
  abbrev pub IsReleased : Station T → Type 0
  IsReleased s = (s.left.room ≡ 0) × (s.right.room ≡ 0)

  abbrev pub HasReleased : List (List (Station T)) → Site → Type 0
  HasReleased stations site =
      IfSome (slice_get (get_or stations site.node []) site.worker) IsReleased
