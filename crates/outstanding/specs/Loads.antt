-- What lies at the nodes of a board, by node and by worker: what waits at both ports, and the times
-- that the worker holds. A load is a bundle without its place, since the place is known from where
-- the load lies.
use Rattle.std.specs.Prelude.{ℕ, zero, suc, Bool, true, false, List, [], ◌∷◌, ◌++◌, ◌&&◌, map, get_or, set, replicate, length, nat_lt}
use Rattle.std.specs.List.{remove, flat_map}
use Rattle.update.specs.declared.change.Update.{Update}
use Rattle.plan.specs.Ancestors.{numbers_below}
use Rattle.histories.specs.declared.event.Site.{Site}
use Rattle.histories.specs.declared.event.Bundle.{Bundle}
use Rattle.histories.specs.declared.event.HeldTime.{HeldTime}
use Rattle.outstanding.specs.declared.queue.Parcel.{Parcel}
use Rattle.outstanding.specs.declared.queue.Parcel.TheVariants.{Change, Sent}
use Rattle.histories.specs.Histories.States.{place}
use Rattle.histories.specs.Histories.{held_entries}

-- the list is empty
abbrev pub is_none : {A : Type 0} → List A → Bool
is_none [] = true
is_none (x ∷ xs) = false

-- updates that wait together, and their stamp
pub record Load (T : Type 0) : Type 0 where
  pub updates : List (Update T)
  pub stamp : List T

-- a queue: what waits in it, the oldest first, and for how many more loads room is reserved, so
-- that they take no memory
pub record QueueState (T : Type 0) : Type 0 where
  pub loads : List (Load T)
  pub room : ℕ

-- what lies at a node for one worker: what waits at its first and its second port, and the times
-- that it holds
pub record Lot (T : Type 0) : Type 0 where
  pub left : List (Load T)
  pub right : List (Load T)
  pub held : List T

module _ {T : Type 0} where
  -- a parcel as a load; a change is a load of one update
  abbrev pub load_of : Parcel T → Load T
  load_of (Change update) = record { updates = update ∷ []; stamp = update.time ∷ [] }
  load_of (Sent updates stamp) = record { updates = updates; stamp = stamp }

  -- a bundle as a load, and a load as a bundle
  abbrev pub load_in : Bundle T → Load T
  load_in b = record { updates = b.updates; stamp = b.stamp }

  abbrev pub bundle_at : Site → Load T → Bundle T
  bundle_at site load = record { place = site; updates = load.updates; stamp = load.stamp }

  -- the lot of a node and worker at which nothing lies
  abbrev pub no_lot : Lot T
  no_lot = record { left = []; right = []; held = [] }

  -- what waits at a port
  abbrev pub loads_at : ℕ → Lot T → List (Load T)
  loads_at zero lot = lot.left
  loads_at (suc zero) lot = lot.right
  loads_at (suc (suc port)) lot = []

  -- the lot with other loads at a port
  abbrev pub with_loads : ℕ → List (Load T) → Lot T → Lot T
  with_loads zero loads lot = record lot { left = loads }
  with_loads (suc zero) loads lot = record lot { right = loads }
  with_loads (suc (suc port)) loads lot = lot

  -- the lot with one more load at a port, behind the others
  abbrev pub with_load_at : ℕ → Load T → Lot T → Lot T
  with_load_at port load lot = with_loads port (loads_at port lot ++ load ∷ []) lot

  -- the lot after a take: the load of a number, from 0, has left its port, and its stamp is held
  abbrev pub without_load_at : ℕ → ℕ → List T → Lot T → Lot T
  without_load_at port number stamp lot =
      record (with_loads port (remove (loads_at port lot) number) lot) { held = lot.held ++ stamp }

  -- the lot of a worker among those of a node, and these with the worker's lot changed
  abbrev pub lot_in : List (Lot T) → ℕ → Lot T
  lot_in row k = get_or row k no_lot

  abbrev pub at_worker : ℕ → (Lot T → Lot T) → List (Lot T) → List (Lot T)
  at_worker k change row = set row k (change (lot_in row k))

  -- the lot of a worker at a node
  abbrev pub lot_of : List (List (Lot T)) → ℕ → ℕ → Lot T
  lot_of stations n k = lot_in (get_or stations n []) k

  -- the stations with the lot of one worker at one node changed
  abbrev pub with_lot : ℕ → ℕ → (Lot T → Lot T) → List (List (Lot T)) → List (List (Lot T))
  with_lot n k change stations = set stations n (at_worker k change (get_or stations n []))

  -- the stations have the place: the node, its worker, and port 0 or 1
  abbrev pub has_place : List (List (Lot T)) → Site → Bool
  has_place stations site =
      nat_lt site.worker (length (get_or stations site.node [])) && nat_lt site.port 2

  -- the stations at which nothing lies
  abbrev pub first_stations : ℕ → ℕ → List (List (Lot T))
  first_stations nodes workers = replicate nodes (replicate workers no_lot)

  -- the stations after a load was put at a place, behind the others, and after each bundle of a
  -- list was put at its own
  abbrev pub put_at : Site → Load T → List (List (Lot T)) → List (List (Lot T))
  put_at site load stations = with_lot site.node site.worker (with_load_at site.port load) stations

  abbrev pub put_all : List (Bundle T) → List (List (Lot T)) → List (List (Lot T))
  put_all [] stations = stations
  put_all (b ∷ bundles) stations = put_all bundles (put_at b.place (load_in b) stations)

  -- the stations after a bundle was taken from its place, by its number there
  abbrev pub taken_from : ℕ → Bundle T → List (List (Lot T)) → List (List (Lot T))
  taken_from number b stations =
      with_lot b.place.node b.place.worker (without_load_at b.place.port number b.stamp) stations

  -- the stations after a worker came to hold these times at a node, and no other
  abbrev pub held_from : ℕ → ℕ → List T → List (List (Lot T)) → List (List (Lot T))
  held_from n k ts stations = with_lot n k (λ lot. record lot { held = ts }) stations

  -- the times that the workers of a node hold, worker by worker
  abbrev pub held_by_all : List (Lot T) → List T
  held_by_all row = flat_map (λ lot. lot.held) row

  -- the bundles that wait at a place
  abbrev pub queue_of : List (List (Lot T)) → Site → List (Bundle T)
  queue_of stations site =
      map (bundle_at site) (loads_at site.port (lot_of stations site.node site.worker))

  -- all bundles that wait, and all times that are held: node by node, worker by worker
  abbrev pub bundles_of : ℕ → ℕ → Lot T → List (Bundle T)
  bundles_of n k lot = map (bundle_at (place n 0 k)) lot.left
      ++ map (bundle_at (place n 1 k)) lot.right

  abbrev pub bundles_in : ℕ → List (Lot T) → List (Bundle T)
  bundles_in n row =
      flat_map (λ k. bundles_of n k (get_or row k no_lot)) (numbers_below (length row))

  abbrev pub all_bundles : List (List (Lot T)) → List (Bundle T)
  all_bundles stations =
      flat_map (λ n. bundles_in n (get_or stations n [])) (numbers_below (length stations))

  abbrev pub held_in : ℕ → List (Lot T) → List (HeldTime T)
  held_in n row =
      flat_map (λ k. held_entries n k (get_or row k no_lot).held) (numbers_below (length row))

  abbrev pub all_held : List (List (Lot T)) → List (HeldTime T)
  all_held stations =
      flat_map (λ n. held_in n (get_or stations n [])) (numbers_below (length stations))
