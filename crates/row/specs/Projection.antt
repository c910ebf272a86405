-- What a map makes of a row.
use Rattle.std.specs.Prelude.{ℕ, Bool, true, List, ℤ, pos, map, nat_lt, slice_get, unwrap_or}
use Rattle.std.specs.List.{list_all}
use Rattle.row.specs.declared.projection.Item.{Item}
use Rattle.row.specs.declared.projection.Item.TheVariants.{Column, Constant}

-- the row's column of that number, or the constant
abbrev pub item_value : Item → List ℤ → ℤ
item_value (Column number) row = unwrap_or (slice_get row number) (pos 0)
item_value (Constant value) row = value

-- a row of this width has the item's column; a constant needs none
abbrev pub is_within : Item → ℕ → Bool
is_within (Column number) width = nat_lt number width
is_within (Constant value) width = true

-- a row of this width has the columns of all the items
abbrev pub are_within : List Item → ℕ → Bool
are_within items width = list_all (λ item. is_within item width) items

-- the values of the items in a row, in order
abbrev pub projection : List Item → List ℤ → List ℤ
projection items row = map (λ item. item_value item row) items
