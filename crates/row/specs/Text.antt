-- How rows are printed, and how items and tests are, in the words of a script.
use Rattle.std.specs.Prelude.{ℕ, List, ◌++◌, ℤ, codes, decimal}
use Rattle.std.specs.List.{join_by}
use Rattle.std.specs.Fmt.{signed_decimal}
use Rattle.row.specs.declared.projection.Item.{Item}
use Rattle.row.specs.declared.projection.Item.TheVariants.{Column, Constant}
use Rattle.row.specs.declared.test.Cmp.{Cmp}
use Rattle.row.specs.declared.test.Cmp.TheVariants.{Eq, Ne, Lt, Le, Gt, Ge}
use Rattle.row.specs.declared.test.Test.{Test}

-- the columns as decimal numbers, separated by one space
abbrev pub row_text : List ℤ → List ℕ
row_text row = join_by signed_decimal (codes " ") row

-- a column is c and its number, a constant is an equals sign and its value
abbrev pub item_text : Item → List ℕ
item_text (Column number) = codes "c" ++ decimal number
item_text (Constant value) = codes "=" ++ signed_decimal value

-- the word of a comparison
abbrev pub cmp_text : Cmp → List ℕ
cmp_text Eq = codes "eq"
cmp_text Ne = codes "ne"
cmp_text Lt = codes "lt"
cmp_text Le = codes "le"
cmp_text Gt = codes "gt"
cmp_text Ge = codes "ge"

-- both items with the comparison between them, separated by one space
abbrev pub test_text : Test → List ℕ
test_text test = item_text test.left ++ (codes " " ++ (cmp_text test.op ++ (codes " " ++ item_text test.right)))
