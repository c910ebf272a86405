-- Examples of what the definitions allow and what they compute, over times that are pairs. A
-- definition that is too strict, or that finds another number, fails at one of them.
use Rattle.std.specs.Prelude.{◌≡◌, ℕ, eqb, if◌then◌else◌, List, [], ◌∷◌, Some, None, pos, negsuc}
use Rattle.lattice.specs.Pairs.{make_pair}
use Rattle.row.specs.declared.projection.Item.TheVariants.{Column}
use Rattle.row.specs.declared.test.Cmp.TheVariants.{Lt}
use Rattle.update.specs.declared.change.Update.{Update}
use Rattle.plan.specs.declared.node.Node.{Node}
use Rattle.plan.specs.declared.node.Node.TheVariants.{Input, Map, Filter, Concat, Negate, Arrange, Join, Reduce, Output}
use Rattle.plan.specs.declared.kind.Kind.TheVariants.{Count, Distinct}
use Rattle.histories.specs.declared.event.Site.{Site}
use Rattle.histories.specs.declared.event.Bundle.{Bundle}
use Rattle.histories.specs.declared.event.Emission.{Emission}
use Rattle.histories.specs.Histories.Dataflows.{Dataflow}
use Rattle.histories.specs.Histories.States.{State, place}
use Rattle.histories.specs.Histories.{held_entries}
use Rattle.histories.specs.Histories.Outstanding.{stamp, frontier, input_frontier, port_frontier}
use Rattle.lattice.specs.Bitimes.{bitime_times, Bitime}

-- the row (7) comes, or goes, at a time
abbrev pub seven_comes : ℕ → ℕ → Update Bitime
seven_comes x y = record { time = make_pair x y; row = pos 7 ∷ []; diff = pos 1 }

abbrev pub seven_goes : ℕ → ℕ → Update Bitime
seven_goes x y = record { time = make_pair x y; row = pos 7 ∷ []; diff = negsuc 0 }

-- a bundle of these updates, and an emission of them by worker 1
abbrev pub bundle_of : Site → List (Update Bitime) → Bundle Bitime
bundle_of site us = record { place = site; updates = us; stamp = stamp bitime_times us }

abbrev pub given_at_node : ℕ → List (Update Bitime) → Emission Bitime
given_at_node n us = record { node = n; worker = 1; updates = us }

-- nothing has happened, except that the frontier of input 0 is this time
abbrev pub open_from : Bitime → State Bitime
open_from t = record {
  fed = [];
  in_flight = [];
  received = [];
  emitted = [];
  held = [];
  open_times = record { input = 0; time = t } ∷ [];
  hand = λ k. None;
  since = λ v. make_pair 0 0 ∷ [];
  observed = [];
}

-- an input arranged by key, and then how many rows each key has, or which rows there are. In both,
-- node 3 is the view
abbrev pub counting : Dataflow
counting = record { nodes = Input 2 ∷ Arrange 0 1 ∷ Reduce Count 1 ∷ Output 2 ∷ []; workers = 2 }

abbrev pub listing : Dataflow
listing = record { nodes = Input 1 ∷ Arrange 0 1 ∷ Reduce Distinct 1 ∷ Output 2 ∷ []; workers = 2 }

-- an input, and a view of its rows as they are
abbrev pub copying : Dataflow
copying = record { nodes = Input 1 ∷ Output 0 ∷ []; workers = 2 }

-- worker 1 is at the distinct of `listing`. The row came at (0, 3) and at (3, 0), the worker holds
-- these two times, and more may come from (4, 4) on
abbrev pub came_twice : State Bitime
came_twice = record (open_from (make_pair 4 4)) {
  received = bundle_of (place 2 0 1) (seven_comes 3 0 ∷ []) ∷ bundle_of (place 2 0 1) (seven_comes 0 3 ∷ []) ∷ [];
  held = record { node = 2; worker = 1; time = make_pair 3 0 } ∷ record { node = 2; worker = 1; time = make_pair 0 3 } ∷ [];
  hand = λ k. if eqb k 1 then Some 2 else None;
  observed = record { node = 2; worker = 1; frontier = make_pair 4 4 ∷ [] } ∷ [];
}

-- the changes of the input that led there, the newest first
abbrev pub changes_of_listing : ℕ → List (Update Bitime)
changes_of_listing input = seven_comes 3 0 ∷ seven_comes 0 3 ∷ []

-- worker 1 took these updates at the input of `copying`, and holds their stamp
abbrev pub came_at_input : List (Update Bitime) → State Bitime
came_at_input us = record (open_from (make_pair 0 0)) {
  received = bundle_of (place 0 0 1) us ∷ [];
  held = held_entries 0 1 (stamp bitime_times us);
  hand = λ k. if eqb k 1 then Some 0 else None;
}

-- an update at (10, 1) waits for worker 1 at the count, or it was taken and a time is held there.
-- The input is open from (0, 2) on
abbrev pub waits_at_count : State Bitime
waits_at_count = record (open_from (make_pair 0 2)) { in_flight = bundle_of (place 2 0 1) (seven_comes 10 1 ∷ []) ∷ [] }

abbrev pub held_at_count : ℕ → ℕ → State Bitime
held_at_count x y = record (open_from (make_pair 0 2)) { held = record { node = 2; worker = 1; time = make_pair x y } ∷ [] }

-- the frontiers at the count: `to` for what may still come to it, `from` for what may still come
-- from it to its view
pub record HasFrontiers (w : State Bitime) (to from : List Bitime) : Type 0 where
  pub input : input_frontier bitime_times counting w 2 ≡ to
  pub port : port_frontier bitime_times counting w 2 0 ≡ to
  pub count : frontier bitime_times counting w 2 ≡ from
  pub view_input : input_frontier bitime_times counting w 3 ≡ from
  pub view_port : port_frontier bitime_times counting w 3 0 ≡ from
  pub view : frontier bitime_times counting w 3 ≡ from

-- three plans: the join of two inputs; an input joined with itself and then three times added to
-- itself; and all linear nodes in a row
abbrev pub joining : List Node
joining = Input 1 ∷ Input 1 ∷ Arrange 0 1 ∷ Arrange 1 1 ∷ Join 2 3 ∷ Output 4 ∷ []

abbrev pub doubling : List Node
doubling = Input 1 ∷ Arrange 0 1 ∷ Join 1 1 ∷ Concat 2 2 ∷ Concat 3 3 ∷ Concat 4 4 ∷ Output 5 ∷ []

abbrev pub linear_row : List Node
linear_row = Input 2 ∷ Map 0 (Column 1 ∷ Column 0 ∷ []) ∷ Filter 1 (record { left = Column 0; op = Lt; right = Column 1 }) ∷ Negate 2 ∷ Concat 2 3 ∷ Output 4 ∷ []
