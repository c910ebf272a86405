-- What a reducer that does not look at rows is given in the place of a key's rows.
use Rattle.std.specs.Prelude.{ℕ, Bool, not, if◌then◌else◌, List, ℤ, map}
use Rattle.update.specs.declared.change.Update.{Update}
use Rattle.joined_times.specs.Joined.{of_key}

module _ {T : Type 0} where
  -- an update of a key as a reducer is given it: a reducer that does not see rows is given the key
  -- in place of the row
  abbrev pub as_seen : Bool → List ℤ → Update T → Update T
  as_seen sees key u = record u { row = if sees then u.row else key }

  -- the updates, with the key in place of each row of the key
  abbrev pub without_rows : ℕ → List ℤ → List (Update T) → List (Update T)
  without_rows k key us = map (λ u. as_seen (not (of_key k key u)) key u) us
