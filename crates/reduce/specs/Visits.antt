-- How a reduction goes through the keys that wait: each is visited once, and then its history is
-- changed in place.
use Rattle.std.specs.Prelude.{◌≡◌, ◌<◌, ◌≤◌, ℕ, Bool, not, List, [], ◌∷◌, ◌++◌, map, set, take, drop, slice_get, Some, if◌then◌else◌, flat_map, length, sum_by, nat_eq, ℤ}
use Rattle.std.specs.List.{filter, list_any}
use Rattle.lattice.specs.Times.{Times}
use Rattle.lattice.specs.Frontiers.{is_beyond}
use Rattle.update.specs.Bags.{Entry}
use Rattle.update.specs.declared.change.Update.{Update}
use Rattle.joined_times.specs.Joined.{Member, of_key}
use Rattle.reduce.specs.Histories.{HistoryState, changed_at, given_more, given_less, due_left}
use Rattle.key_history.specs.Settlements.{Settling}

-- the place of a history, the history as it was, what is given of its key, and the times that are
-- still pending
pub record Visit (T : Type 0) : Type 0 where
  pub place : ℕ
  pub history : HistoryState T
  pub more : List (Update T)
  pub rest : List T

module _ {T : Type 0} where
  -- the history after a visit
  abbrev pub renewed : Visit T → HistoryState T
  renewed v = record v.history { due = v.rest; given = v.history.given ++ v.more }

  -- all histories after some visits
  abbrev pub all_renewed : List (Visit T) → List (HistoryState T) → List (HistoryState T)
  all_renewed [] hs = hs
  all_renewed (v ∷ vs) hs = all_renewed vs (set hs v.place (renewed v))

  -- the key at a place waits on if some of its times are still pending
  abbrev pub waiting_at : ℕ → List T → List ℕ
  waiting_at place rest = if nat_eq (length rest) 0 then [] else place ∷ []

  -- the key waits on after a visit
  abbrev pub waits_on : Visit T → List ℕ
  waits_on v = waiting_at v.place v.rest

-- what is new of a key: the place of its history, how many updates are given of it, and the times
-- that are still pending
pub record ChangeState (T : Type 0) : Type 0 where
  pub place : ℕ
  pub many : ℕ
  pub rest : List T

module _ {T : Type 0} where
  -- each of them is of one of so many histories
  abbrev pub AreWithin : ℕ → List (ChangeState T) → Type 0
  AreWithin many cs = (c : ChangeState T) → Member c cs → c.place < many

  -- the updates are given one key after the other
  abbrev pub AreCut : List (ChangeState T) → List (Update T) → Type 0
  AreCut [] out = Unit {0}
  AreCut (c ∷ cs) out = (c.many ≤ length out) × AreCut cs (drop c.many out)

  -- the histories with what is given of each key appended
  abbrev pub all_given : List (ChangeState T) → List (Update T) → List (HistoryState T) → List (HistoryState T)
  all_given [] out hs = hs
  all_given (c ∷ cs) out hs = all_given cs (drop c.many out) (changed_at c.place (given_more (take c.many out)) hs)

  -- the histories with what was appended taken back, the last first
  abbrev pub all_taken_back : List (ChangeState T) → List (HistoryState T) → List (HistoryState T)
  all_taken_back [] hs = hs
  all_taken_back (c ∷ cs) hs = changed_at c.place (given_less c.many) (all_taken_back cs hs)

  -- the histories with the times of each key that are still pending
  abbrev pub all_left : List (ChangeState T) → List (HistoryState T) → List (HistoryState T)
  all_left [] hs = hs
  all_left (c ∷ cs) hs = all_left cs (changed_at c.place (due_left c.rest) hs)

  -- the histories with both: what is given is appended, and the times that are still pending are
  -- put in place
  abbrev pub all_changed : List (ChangeState T) → List (Update T) → List (HistoryState T) → List (HistoryState T)
  all_changed [] out hs = hs
  all_changed (c ∷ cs) out hs = all_changed cs (drop c.many out) (changed_at c.place (λ h. due_left c.rest (given_more (take c.many out) h)) hs)

module _ {T : Type 0} (times : Times T) (front : List T) where
  -- the frontier has passed some pending time of the key
  abbrev pub is_due : HistoryState T → Bool
  is_due h = list_any (λ t. not (is_beyond times front t)) h.due

  -- what is new after a visit
  abbrev pub changes_of : Visit T → List (ChangeState T)
  changes_of v = if is_due v.history then record { place = v.place; many = length v.more; rest = v.rest } ∷ [] else []

  -- how many updates are read at a visit
  abbrev pub reads_of : List (Update T) → Visit T → ℕ
  reads_of content v =
      if is_due v.history then length (filter (of_key (length v.history.key) v.history.key) content) else 0

  module _ (reduce : List ℤ → List Entry → List Entry) (content : List (Update T)) (hs : List (HistoryState T)) where
    -- this is a visit to one of these histories
    pub record IsVisit (v : Visit T) : Type 0 where
      pub there : slice_get hs v.place ≡ Some v.history
      pub settled : Settling times (length v.history.key) reduce v.history.key content v.history.given front v.history.due (length v.history.due) v.more v.rest

    abbrev pub AreVisits : List (Visit T) → Type 0
    AreVisits [] = Unit {0}
    AreVisits (v ∷ vs) = IsVisit v × AreVisits vs

    -- what is gathered at visits to these places
    pub record Gathers (places : List ℕ) (visits : List (Visit T)) (out : List (Update T)) (changes : List (ChangeState T)) (waiting : List ℕ) (reads : ℕ) : Type 0 where
      pub places_are : map (λ v. v.place) visits ≡ places
      pub visits_are : AreVisits visits
      pub out_is : out ≡ flat_map (λ v. v.more) visits
      pub changes_are : changes ≡ flat_map changes_of visits
      pub waiting_is : waiting ≡ flat_map waits_on visits
      pub reads_are : reads ≡ sum_by (reads_of content) visits
