-- What a spine keeps of its readers' holds, and what follows from them (McSherry et al., Shared
-- Arrangements, VLDB 2020).
use Rattle.std.specs.Prelude.{◌≡◌, ℕ, ◌+◌, Bool, List, [], ◌∷◌, set, length, slice_get, Some}
use Rattle.std.specs.List.{count_by, list_any, remove}
use Rattle.std.specs.declared.cmp.Ordering.{Ordering}
use Rattle.lattice.specs.Times.{Times}
use Rattle.lattice.specs.Frontiers.{is_beyond, all_beyond}
use Rattle.antichain.specs.Antichains.{IsFrontier}
use Rattle.trace.specs.Holds.{HoldState}

module _ {T : Type 0} (times : Times T) where
  -- the least of the logical frontiers of some holds: beyond it is what is beyond one of them
  pub record IsSinceOf (cmp : T → T → Ordering) (holds : List (HoldState T)) (since : List T) : Type 0 where
    pub frontier : IsFrontier times cmp since
    pub beyond : (t : T) → is_beyond times since t ≡ list_any (λ h. is_beyond times h.logical t) holds

  -- some reader may still ask for the boundary: it is beyond the reader's physical frontier
  abbrev pub forbids : List (HoldState T) → List T → Bool
  forbids holds u = list_any (λ h. all_beyond times h.physical u) holds

-- how many elements the logical frontiers have
abbrev pub logical_count : {T : Type 0} → List (HoldState T) → ℕ
logical_count [] = 0
logical_count (h ∷ hs) = length h.logical + logical_count hs

-- one of the holds was `from` and is `to` now
pub record IsMoved {T : Type 0} (from to : HoldState T) (old new : List (HoldState T)) : Type 0 where
  pub number : ℕ
  pub is : slice_get old number ≡ Some from
  pub moved : new ≡ set old number to

-- one such hold is gone
pub record IsWithout {T : Type 0} (hold : HoldState T) (old new : List (HoldState T)) : Type 0 where
  pub number : ℕ
  pub is : slice_get old number ≡ Some hold
  pub rest : new ≡ remove old number

-- the same holds in some order: as many of the one list as of the other pass any test
pub record AreSameHolds {T : Type 0} (hs ks : List (HoldState T)) : Type 0 where
  pub counts : (p : HoldState T → Bool) → count_by p hs ≡ count_by p ks
