-- What a board answers: frontiers, a view's rows at a time, its changes, and whether it is quiet.
use Rattle.std.specs.Prelude.{ℕ, Bool, true, false, not, ◌&&◌, List, [], ◌∷◌, length, get_or, Option, Some, None, nat_lt}
use Rattle.std.specs.List.{filter, list_all, list_any, flat_map}
use Rattle.lattice.specs.Times.{Times}
use Rattle.lattice.specs.Frontiers.{is_beyond}
use Rattle.update.specs.Updates.{HasLargeTotal}
use Rattle.update.specs.declared.change.Update.{Update}
use Rattle.update.specs.declared.refusal.Refusal.{Refusal}
use Rattle.update.specs.declared.refusal.Refusal.TheVariants.{NotPassed, GivenUp}
use Rattle.plan.specs.Changes.{has_passed}
use Rattle.plan.specs.Rules.{first_refusal}
use Rattle.plan.specs.Ancestors.{numbers_below}
use Rattle.histories.specs.declared.event.OpenTime.{OpenTime}
use Rattle.histories.specs.Histories.{open_entries}
use Rattle.outstanding.specs.Inputs.{front_at}
use Rattle.histories.specs.Histories.States.{State}
use Rattle.outstanding.specs.Loads.{is_none, lot_of, all_bundles, all_held}
use Rattle.histories.specs.Histories.Outstanding.{frontier, input_frontier, port_frontier}
use Rattle.views.specs.Views.{HasLargeSum}
use Rattle.update.specs.Refusals.{IsRefusalOr}
use Rattle.machine.specs.Boards.{BoardState, no_view, is_from_start}

-- the elements of the inputs' frontiers
abbrev pub open_on : {T : Type 0} → BoardState T → List (OpenTime T)
open_on b =
    flat_map (λ i. open_entries i (front_at i b.inputs)) (numbers_below (length b.dataflow.nodes))

-- the board as a state that a history leaves, with the logs of the past empty: frontiers need only
-- what is outstanding
abbrev pub on_board : {T : Type 0} → BoardState T → State T
on_board b = record {
  fed = [];
  in_flight = all_bundles b.stations;
  received = [];
  emitted = [];
  held = all_held b.stations;
  open_times = open_on b;
  hand = λ k. get_or b.hand k None;
  since = λ v. (get_or b.views v no_view).since;
  observed = [];
}

-- what a view captured, and the frontier beyond which it may be read
abbrev pub captured_of : {T : Type 0} → BoardState T → ℕ → List (Update T)
captured_of b v = (get_or b.views v no_view).captured

abbrev pub since_of : {T : Type 0} → BoardState T → ℕ → List T
since_of b v = (get_or b.views v no_view).since

-- no worker has a piece in hand
abbrev pub hands_are_free : List (Option ℕ) → Bool
hands_are_free [] = true
hands_are_free (None ∷ hand) = hands_are_free hand
hands_are_free (Some n ∷ hand) = false

module _ {T : Type 0} (times : Times T) where
  -- the frontiers of a node, as they are found on the board
  abbrev pub front : BoardState T → ℕ → List T
  front b n = frontier times b.dataflow (on_board b) n

  abbrev pub input_front : BoardState T → ℕ → List T
  input_front b n = input_frontier times b.dataflow (on_board b) n

  -- the input frontier of one port, found in the same way
  abbrev pub port_front : BoardState T → ℕ → ℕ → List T
  port_front b n port = port_frontier times b.dataflow (on_board b) n port

  -- a worker holds a time at a node that the node's input frontier has passed
  abbrev pub is_ready : BoardState T → ℕ → ℕ → Bool
  is_ready b k n = list_any (has_passed times (input_front b n)) (lot_of b.stations n k).held

  -- each held time could still receive input: its node's input frontier has not passed it
  abbrev pub all_wait : BoardState T → Bool
  all_wait b = list_all
      (λ m. nat_lt m.node (length b.dataflow.nodes) && is_beyond times (input_front b m.node) m.time)
      (all_held b.stations)

  -- nothing is in flight or in hand, and each held time could still receive input
  abbrev pub is_quiet_board : BoardState T → Bool
  is_quiet_board b = is_none (all_bundles b.stations) && (hands_are_free b.hand && all_wait b)

  -- the refusal of a read, in the order in which its faults are tested
  abbrev pub read_refusal_on : BoardState T → ℕ → T → Option Refusal
  read_refusal_on b v t = first_refusal
      ((is_beyond times (front b v) t, NotPassed)
      ∷ (not (is_beyond times (since_of b v) t), GivenUp) ∷ [])

  -- the refusal of a view's changes
  abbrev pub changes_refusal_on : BoardState T → ℕ → Option Refusal
  changes_refusal_on b v =
      first_refusal ((not (is_from_start times (since_of b v)), GivenUp) ∷ [])

  -- what a view captured at times that its frontier has passed
  abbrev pub passed_captured : BoardState T → ℕ → List (Update T)
  passed_captured b v = filter (λ u. has_passed times (front b v) u.time) (captured_of b v)

  -- how a read, and the changes of a view, may be refused: with a fault, for want of memory, or
  -- with a number that is too large
  abbrev pub IsReadRefusal : BoardState T → ℕ → T → Refusal → Type 0
  IsReadRefusal b v t refusal =
      IsRefusalOr (HasLargeSum times (captured_of b v) t) (read_refusal_on b v t) refusal

  abbrev pub IsChangesRefusal : BoardState T → ℕ → Refusal → Type 0
  IsChangesRefusal b v refusal =
      IsRefusalOr (HasLargeTotal times (passed_captured b v))
      (changes_refusal_on b v) refusal
