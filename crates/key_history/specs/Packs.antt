-- Updates that are packed in two lists: their heads, and the columns of all rows one after the
-- other.
use Rattle.std.specs.Prelude.{◌≡◌, ℕ, ◌≤◌, List, [], ◌∷◌, ℤ, length, take, drop, map, flat_map}
use Rattle.std.specs.List.{All}
use Rattle.update.specs.declared.change.Update.{Update}
use Rattle.key_history.specs.declared.pack.Head.{Head}

module _ {T : Type 0} where
  -- the columns of all rows, one after the other
  abbrev pub columns_of : List (Update T) → List ℤ
  columns_of us = flat_map (λ u. u.row) us

  -- how many columns the rows before a place have
  abbrev pub columns_before : ℕ → List (Update T) → ℕ
  columns_before i us = length (columns_of (take i us))

  -- an update without its row
  abbrev pub head_of : Update T → Head T
  head_of u = record { time = u.time; diff = u.diff; width = length u.row }

  -- the updates of these heads: each row is as many of the next columns as it is wide
  abbrev pub unpacked : List (Head T) → List ℤ → List (Update T)
  unpacked [] columns = []
  unpacked (h ∷ heads) columns =
      record { time = h.time; row = take h.width columns; diff = h.diff } ∷ unpacked heads (drop h.width columns)

  -- both lists are those of these updates, and each row has 1 to 8 columns
  pub record ArePacked (us : List (Update T)) (heads : List (Head T)) (columns : List ℤ) : Type 0 where
    pub heads_are : heads ≡ map head_of us
    pub columns_are : columns ≡ columns_of us
    pub some : All (λ u. 1 ≤ length u.row) us
    pub few : All (λ u. length u.row ≤ 8) us
