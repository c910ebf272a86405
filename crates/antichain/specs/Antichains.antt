-- Antichains, and the least of some times, each as a list of elements (Murray et al., Naiad, SOSP
-- 2013, section 2.3; Abadi and Isard, Timely Dataflow: A Model, 2015).
use Rattle.std.specs.Prelude.{Bool, true, not, ◌&&◌, ◌||◌, List, [], ◌∷◌, IsTrue, Contains}
use Rattle.std.specs.List.{filter, list_all}
use Rattle.std.specs.List.Sorted.{IsStrictlySortedBy}
use Rattle.std.specs.declared.cmp.Ordering.{Ordering}
use Rattle.lattice.specs.Times.{Times}

-- the lists have the same elements, in any order and with any repetitions
pub record SameElements {T : Type 0} (xs ys : List T) : Type 0 where
  pub into : (t : T) → Contains xs t → Contains ys t
  pub back : (t : T) → Contains ys t → Contains xs t

module _ {T : Type 0} (times : Times T) where
  -- neither of two times is at or before the other
  abbrev pub is_incomparable : T → T → Bool
  is_incomparable s t = not (times.below s t) && not (times.below t s)

  -- no two times of the list can be compared
  abbrev pub is_antichain : List T → Bool
  is_antichain [] = true
  is_antichain (t ∷ ts) = list_all (is_incomparable t) ts && is_antichain ts

  -- no other one of the times is at or before t
  abbrev pub is_least : List T → T → Bool
  is_least elements t = list_all (λ s. not (times.below s t) || times.below t s) elements

  -- the least of the times: those with no other one of them at or before them
  unfoldable pub least : List T → List T
  least elements = filter (is_least elements) elements

  -- an antichain in the order of sorting; of all lists with the same elements, a contract sees this
  -- one
  pub record IsFrontier (cmp : T → T → Ordering) (elements : List T) : Type 0 where
    pub antichain : IsTrue (is_antichain elements)
    pub ascending : IsStrictlySortedBy cmp elements
