-- What taking a batch makes of the histories of its keys.
use Rattle.std.specs.Prelude.{◌≡◌, ◌↔◌, ◌⊎◌, ℕ, false, List, [], ◌∷◌, ℤ, Option, Some, None, IsSomeAnd, slice_get}
use Rattle.std.specs.List.{list_any}
use Rattle.std.specs.declared.cmp.Ordering.{Ordering}
use Rattle.update.specs.Bags.{same_row}
use Rattle.update.specs.declared.change.Update.{Update}
use Rattle.reduce.specs.declared.intake.Renewal.{Renewal}
use Rattle.joined_times.specs.Joined.{Member, times_of}
use Rattle.joined_times.specs.Additions.{IsFreshBy}
use Rattle.reduce.specs.Histories.{HistoryState, IsHistory, AreHistories, AreKeysApart, history_of, due_of, joined_of, given_of}
use Rattle.lattice.specs.Times.{Times}

module _ {T : Type 0} where
  -- the history that is made of a key: what was given of it stays
  abbrev pub made_from : List (HistoryState T) → Renewal T → HistoryState T
  made_from hs r = record { key = r.key; times = r.times.items; due = r.due.items; given = given_of r.key hs }

  -- the place of the history of a key, or none if the key has no history
  abbrev pub IsPlaceOf : List (HistoryState T) → List ℤ → Option ℕ → Type 0
  IsPlaceOf hs key (Some i) = IsSomeAnd (slice_get hs i) (λ h. h.key ≡ key)
  IsPlaceOf hs key None = list_any (λ h. same_row key h.key) hs ≡ false

  -- what is made of a key has the place of the key's history
  abbrev pub IsPlaced : List (HistoryState T) → Renewal T → Type 0
  IsPlaced hs r = IsPlaceOf hs r.key r.place

module _ {T : Type 0} (times : Times T) where
  -- these times and pending times are those of a key that had `times` and `due`, with new ones: the
  -- joins of new times, and the joins of these with kept times, were added to both
  pub record HasTaken (ts due new : List T) (h : HistoryState T) : Type 0 where
    pub times_are : (t : T) → Member t h.times ↔ (Member t ts ⊎ IsFreshBy times new ts t)
    pub due_are : (t : T) → Member t h.due ↔ (Member t due ⊎ IsFreshBy times new ts t)

  -- h is the new history of a key that has these new times, in the place of the one among hs
  pub record IsRenewed (cmp : T → T → Ordering) (k : ℕ) (hs : List (HistoryState T)) (key : List ℤ) (new : List T) (h : HistoryState T) : Type 0 where
    pub key_is : h.key ≡ key
    pub history : IsHistory cmp k h
    pub given_is : h.given ≡ given_of key hs
    pub taken : HasTaken (joined_of key hs) (due_of key hs) new h

  -- these are the new histories of the keys of a batch, in the place of those among hs
  pub record AreRenewed (cmp : T → T → Ordering) (k : ℕ) (content : List (Update T)) (hs made : List (HistoryState T)) : Type 0 where
    pub histories : AreHistories cmp k made
    pub apart : AreKeysApart made
    -- a key that the batch has not has no new history
    pub others : (key : List ℤ) → times_of k key content ≡ [] → history_of key made ≡ []
    -- a key that it has has one
    pub taken : (key : List ℤ) → (times_of k key content ≡ [] → ⊥)
        → (h : HistoryState T) × (history_of key made ≡ h ∷ [])
        × (h.given ≡ given_of key hs)
        × HasTaken (joined_of key hs) (due_of key hs) (times_of k key content) h

-- the first list, or the second one where the first is empty
abbrev pub or_else : {X : Type 0} → List X → List X → List X
or_else [] ys = ys
or_else (x ∷ xs) ys = x ∷ xs
