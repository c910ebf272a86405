-- Tests of rows: whether a row passes a filter.
use Rattle.std.specs.Prelude.{ℕ, Bool, ◌&&◌, List, ℤ}
use Rattle.std.specs.Ordering.{int_cmp, is_eq, is_ne, is_lt, is_le, is_gt, is_ge}
use Rattle.row.specs.declared.test.Cmp.{Cmp}
use Rattle.row.specs.declared.test.Cmp.TheVariants.{Eq, Ne, Lt, Le, Gt, Ge}
use Rattle.row.specs.declared.test.Test.{Test}
use Rattle.row.specs.Projection.{item_value, is_within}

-- the comparison holds of two whole numbers
abbrev pub compares : Cmp → ℤ → ℤ → Bool
compares Eq x y = is_eq (int_cmp x y)
compares Ne x y = is_ne (int_cmp x y)
compares Lt x y = is_lt (int_cmp x y)
compares Le x y = is_le (int_cmp x y)
compares Gt x y = is_gt (int_cmp x y)
compares Ge x y = is_ge (int_cmp x y)

-- a row of this width has the columns of both items of the test
abbrev pub is_test_within : Test → ℕ → Bool
is_test_within test width = is_within test.left width && is_within test.right width

-- the comparison holds of the values of the test's two items in the row
abbrev pub passes : Test → List ℤ → Bool
passes test row = compares test.op (item_value test.left row) (item_value test.right row)
