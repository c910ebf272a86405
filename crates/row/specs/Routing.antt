-- Which worker owns the rows of a key.
use Rattle.std.specs.Prelude.{ℕ, List, [], ◌∷◌, ℤ, pos, ◌+ℤ◌, unsigned_abs}
use Rattle.std.specs.Int.{int_rem_euclid}

-- the sum of a key's columns, as a whole number without bounds
abbrev pub column_sum : List ℤ → ℤ
column_sum [] = pos 0
column_sum (column ∷ columns) = column +ℤ column_sum columns

-- the worker's number: the remainder, from 0 to n - 1, of that sum divided by n
abbrev pub route_of : List ℤ → ℕ → ℕ
route_of key n = unsigned_abs (int_rem_euclid (column_sum key) (pos n))
