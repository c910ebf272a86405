-- What a join makes of updates: each left update is paired with each right update of its key. A
-- pair is visible only from the join of both times (McSherry et al., Differential Dataflow, CIDR
-- 2013).
use Rattle.std.specs.Prelude.{ℕ, ◌+◌, nat_le, Bool, List, ◌++◌, map, take, drop, length, ℤ, ◌*ℤ◌}
use Rattle.std.specs.List.{filter, flat_map, list_all}
use Rattle.update.specs.Bags.{same_row}
use Rattle.update.specs.declared.change.Update.{Update}
use Rattle.lattice.specs.Times.{Times}

module _ {T : Type 0} where
  -- the update's row begins with the key of k columns
  abbrev pub is_keyed : ℕ → List ℤ → Update T → Bool
  is_keyed k key u = same_row (take k u.row) key

  -- the left row and the rest of the right row, at the join of both times; the diff is the product
  -- of both diffs (McSherry et al., Differential Dataflow, CIDR 2013)
  abbrev pub pair_of : Times T → ℕ → Update T → Update T → Update T
  pair_of times k u v =
      record { time = times.joined u.time v.time; row = u.row ++ drop k v.row; diff = u.diff *ℤ v.diff }

  -- the pairs of one left update with the right updates of its key
  abbrev pub pairs_with : Times T → ℕ → Update T → List (Update T) → List (Update T)
  pairs_with times k u vs = map (pair_of times k u) (filter (is_keyed k (take k u.row)) vs)

  -- the pairs of all left updates with the right updates of their keys (McSherry et al.,
  -- Differential Dataflow, CIDR 2013)
  abbrev pub pairs : Times T → ℕ → List (Update T) → List (Update T) → List (Update T)
  pairs times k us vs = flat_map (λ u. pairs_with times k u vs) us

  -- the pair's row has at most 8 columns
  abbrev pub fits : ℕ → Update T → Update T → Bool
  fits k u v = nat_le (length u.row + length (drop k v.row)) 8

  -- the rows of all pairs have at most 8 columns
  abbrev pub pairs_fit : ℕ → List (Update T) → List (Update T) → Bool
  pairs_fit k us vs = list_all (λ u. list_all (fits k u) (filter (is_keyed k (take k u.row)) vs)) us

-- the row has a key of k columns
abbrev pub is_wide : ℕ → List ℤ → Bool
is_wide k row = nat_le k (length row)
