-- What a contract sees of a reduction: the history of each key, and which keys wait.
use Rattle.std.specs.Prelude.{◌≡◌, ◌≢◌, ◌↔◌, ℕ, zero, suc, slice_get, IsSomeAnd, false, List, [], ◌∷◌, ℤ, IsTrue, length, ⊤, if◌then◌else◌, flat_map}
use Rattle.std.specs.List.{list_all, list_any}
use Rattle.std.specs.List.Sorted.{IsStrictlySortedBy}
use Rattle.std.specs.declared.cmp.Ordering.{Ordering}
use Rattle.update.specs.Bags.{same_row}
use Rattle.update.specs.declared.change.Update.{Update}
use Rattle.joined_times.specs.Joined.{Member, AreOnce, of_key}
pub use Rattle.key_history.specs.States.{HistoryState, given_more, given_less, due_left, times_put}

-- the number of columns of a key, the reducer, the history of each key, the places of the keys that
-- have pending times, and how many updates were read
pub record ReduceView (T R : Type 0) : Type 0 where
  pub key : ℕ
  pub reducer : R
  pub histories : List (HistoryState T)
  pub waiting : List ℕ
  pub looked : ℕ

module _ {T : Type 0} where
  -- what the histories have of a key: of a key without a history nothing
  abbrev pub of_history : {X : Type 0} → (HistoryState T → List X) → List ℤ → List (HistoryState T) → List X
  of_history f key hs = flat_map (λ h. if same_row h.key key then f h else []) hs

  -- the history of a key, or none
  abbrev pub history_of : List ℤ → List (HistoryState T) → List (HistoryState T)
  history_of = of_history (λ h. h ∷ [])

  -- the pending times of a key
  abbrev pub due_of : List ℤ → List (HistoryState T) → List T
  due_of = of_history (λ h. h.due)

  -- the joined times of a key
  abbrev pub joined_of : List ℤ → List (HistoryState T) → List T
  joined_of = of_history (λ h. h.times)

  -- what was given of a key
  abbrev pub given_of : List ℤ → List (HistoryState T) → List (Update T)
  given_of = of_history (λ h. h.given)

  -- each key once
  abbrev pub AreKeysApart : List (HistoryState T) → Type 0
  AreKeysApart [] = ⊤
  AreKeysApart (h ∷ hs) = (list_any (λ g. same_row h.key g.key) hs ≡ false) × AreKeysApart hs

  -- a history of a key of k columns: times in order, each once, and only rows of the key
  pub record IsHistory (cmp : T → T → Ordering) (k : ℕ) (h : HistoryState T) : Type 0 where
    pub width : length h.key ≡ k
    pub times : IsStrictlySortedBy cmp h.times
    pub due : IsStrictlySortedBy cmp h.due
    pub keyed : IsTrue (list_all (of_key k h.key) h.given)

  -- each of them is one
  abbrev pub AreHistories : (T → T → Ordering) → ℕ → List (HistoryState T) → Type 0
  AreHistories cmp k [] = ⊤
  AreHistories cmp k (h ∷ hs) = IsHistory cmp k h × AreHistories cmp k hs

module _ {T : Type 0} where
  -- each of them has pending times
  abbrev pub ArePending : List (HistoryState T) → Type 0
  ArePending hs = (h : HistoryState T) → Member h hs → h.due ≢ []

  -- the places of the histories that have pending times, each once
  pub record IsWaiting (hs : List (HistoryState T)) (waiting : List ℕ) : Type 0 where
    pub once : AreOnce waiting
    pub exact : (i : ℕ) → Member i waiting ↔ IsSomeAnd (slice_get hs i) (λ h. h.due ≢ [])

module _ {T : Type 0} where
  -- the histories after the one at a place was changed
  abbrev pub changed_at : ℕ → (HistoryState T → HistoryState T) → List (HistoryState T) → List (HistoryState T)
  changed_at i f [] = []
  changed_at zero f (h ∷ hs) = f h ∷ hs
  changed_at (suc i) f (h ∷ hs) = h ∷ changed_at i f hs

-- the histories in order of arrival, and how many more there is room for
pub record HistoriesState (T : Type 0) : Type 0 where
  pub items : List (HistoryState T)
  pub spare : ℕ

-- places in a list, and how many more there is room for
pub record PlacesState : Type 0 where
  pub items : List ℕ
  pub spare : ℕ
