-- How a bag is printed.
use Rattle.std.specs.Prelude.{ℕ, List, [], ◌∷◌, ◌++◌, codes}
use Rattle.std.specs.List.{flat_map}
use Rattle.std.specs.Fmt.{signed_decimal}
use Rattle.row.specs.Text.{row_text}
use Rattle.update.specs.Bags.{Entry}

-- the count and the columns as decimal numbers, separated by one space, and the end of the line
abbrev pub entry_text : Entry → List ℕ
entry_text e = signed_decimal e.count ++ (codes " " ++ (row_text e.row ++ 10 ∷ []))

-- a line for each entry, in order
abbrev pub bag_text : List Entry → List ℕ
bag_text entries = flat_map entry_text entries
