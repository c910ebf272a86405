-- How the differences of a view are listed: time by time, along the join closure.
use Rattle.std.specs.Prelude.{◌≡◌, ◌⊎◌, ℕ, List, ◌++◌, map, IsTrue, ◌+ℤ◌, neg_ℤ, FitsSigned, ℤ}
use Rattle.std.specs.Int.{w64}
use Rattle.std.specs.List.{AllByRecursion, Contains}
use Rattle.std.specs.declared.cmp.Ordering.{Ordering}
use Rattle.update.specs.Bags.{Entry, Alike, IsBag, count_of}
use Rattle.update.specs.Updates.{as_of, IsConsolidated}
use Rattle.update.specs.declared.change.Update.{Update}
use Rattle.plan.specs.Changes.{has_passed, query_at}
use Rattle.plan.specs.declared.node.Node.{Node}
use Rattle.oracle.specs.Evaluation.{HasLargeAbove, list_of, sums_at}
use Rattle.lattice.specs.Times.{Times}

-- the entry as an update at t
abbrev pub at_time : {T : Type 0} → T → Entry → Update T
at_time t e = record { time = t; row = e.row; diff = e.count }

module _ {T : Type 0} (times : Times T) where
  -- for some row, the wanted count minus the sum listed at or before t does not fit in 64 bits
  abbrev pub HasLargeGap : T → List Entry → List (Update T) → Type 0
  HasLargeGap t wanted us = (row : List ℤ)
      × (FitsSigned w64 (count_of wanted row +ℤ neg_ℤ (count_of (as_of times t us) row)) → ⊥)

  -- the list is finished for these times of the closure: at each of them that has passed it sums to
  -- what is wanted, and it has no other times
  pub record IsListed (cmp : T → T → Ordering) (frontier : List T) (wanted : T → List Entry) (ts : List T) (us : List (Update T)) : Type 0 where
    pub sums : (t : T) → Contains ts t → IsTrue (has_passed times frontier t)
        → Alike (as_of times t us) (wanted t)
    pub among : AllByRecursion (λ u. IsTrue (has_passed times frontier u.time) × Contains ts u.time) us
    pub consolidated : IsConsolidated cmp us

  -- the list continues at t with what is wanted there, minus what is listed at or before t
  abbrev pub ContinuesListing : T → List Entry → List (Update T) → List (Update T) → Type 0
  ContinuesListing t wanted us vs = (gap : List Entry) × IsBag gap
      × (vs ≡ us ++ map (at_time t) gap)
      × ((row : List ℤ) → count_of gap row +ℤ count_of (as_of times t us) row ≡ count_of wanted row)

  -- at some passed time t the query has a number that is too large, or the difference at t is too
  -- large: the query's answer there minus a list that has no update at t and sums to the query at
  -- all earlier times
  abbrev pub HasLargeDifference : List Node → List (List (Update T)) → List T → ℕ → Type 0
  HasLargeDifference p lists frontier n = (t : T) × IsTrue (has_passed times frontier t)
      × (HasLargeAbove p (sums_at times p lists t) n
      ⊎ ((us : List (Update T))
      × ((s : T) → IsTrue (times.below s t) → (s ≡ t → ⊥) → Alike (as_of times s us) (query_at times p (list_of p lists) n s))
      × AllByRecursion (λ u. u.time ≡ t → ⊥) us
      × HasLargeGap t (query_at times p (list_of p lists) n t) us))
