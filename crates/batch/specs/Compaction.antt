-- Compaction: each time is moved to its representative as of a frontier, which no read beyond the
-- frontier can tell from it (McSherry et al., Shared Arrangements, VLDB 2020).
use Rattle.std.specs.Prelude.{◌≤◌, ◌≡◌, Bool, List, ℤ, map, IsTrue}
use Rattle.std.specs.List.{list_all}
use Rattle.lattice.specs.Times.{Times}
use Rattle.lattice.specs.Representatives.{representative_of}
use Rattle.update.specs.declared.change.Update.{Update}
use Rattle.update.specs.Updates.{total_where, size}

module _ {T : Type 0} (times : Times T) (since : List T) where
  -- the update with its time moved to the representative as of the frontier
  abbrev pub at_representative : Update T → Update T
  at_representative u = record u { time = representative_of times since u.time }

  -- the updates, each with its time moved so
  abbrev pub compacted : List (Update T) → List (Update T)
  compacted us = map at_representative us

  -- each time is its own representative: it is not before the representative, and no representative
  -- is before its time
  abbrev pub are_compacted : List (Update T) → Bool
  are_compacted us = list_all (λ u. times.below (representative_of times since u.time) u.time) us

-- us have the totals of vs for every set of rows and times, are no larger, and have only rows and
-- times of theirs
pub record StandFor {T : Type 0} (us vs : List (Update T)) : Type 0 where
  pub totals : (p : List ℤ → T → Bool) → total_where p us ≡ total_where p vs
  pub smaller : size us ≤ size vs
  pub among : (p : List ℤ → T → Bool)
      → IsTrue (list_all (λ u. p u.row u.time) vs)
      → IsTrue (list_all (λ u. p u.row u.time) us)

-- a test of row and time that each later time passes too
abbrev pub IsUpward : {T : Type 0} → Times T → (List ℤ → T → Bool) → Type 0
IsUpward {T} times p = (row : List ℤ) (t u : T) → IsTrue (times.below t u) → IsTrue (p row t) → IsTrue (p row u)
