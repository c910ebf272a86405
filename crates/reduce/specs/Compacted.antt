-- Histories after what they keep was moved as of a since.
use Rattle.std.specs.Prelude.{◌≡◌, ℕ, List, [], ◌∷◌, ⊤, Some, slice_get}
use Rattle.std.specs.declared.cmp.Ordering.{Ordering}
use Rattle.lattice.specs.Times.{Times}
use Rattle.lattice.specs.Representatives.{representative_of}
use Rattle.update.specs.Updates.{HasLargeTotal}
use Rattle.key_history.specs.Compaction.{IsCompacted, IsFolded, retimed}
use Rattle.reduce.specs.Histories.{HistoryState}

module _ {T : Type 0} (times : Times T) (cmp : T → T → Ordering) (since : List T) where
  -- each history was moved as of the since, or left as it was; none has gone to another place
  abbrev pub AreCompacted : List (HistoryState T) → List (HistoryState T) → Type 0
  AreCompacted [] [] = ⊤
  AreCompacted [] (g ∷ gs) = ⊥
  AreCompacted (h ∷ hs) [] = ⊥
  AreCompacted (h ∷ hs) (g ∷ gs) = IsCompacted times cmp since h g × AreCompacted hs gs

module _ {T : Type 0} (times : Times T) (since : List T) where
  -- each of these histories is folded as of the since
  abbrev pub AreFolded : (T → T → Ordering) → List (HistoryState T) → Type 0
  AreFolded cmp hs =
      (place : ℕ) (h : HistoryState T)
      → slice_get hs place ≡ Some h
      → IsFolded times since cmp h

  -- the total of some row at some moved time, over what was given of one of the keys, is no 64-bit
  -- number
  abbrev pub HasLargeGiven : List (HistoryState T) → Type 0
  HasLargeGiven hs =
      (place : ℕ)
      × (h : HistoryState T)
      × (slice_get hs place ≡ Some h)
      × HasLargeTotal times (retimed (representative_of times since) h.given)
