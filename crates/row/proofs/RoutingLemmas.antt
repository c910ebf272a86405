-- Sums of columns, and division with remainder.
use Rattle.std.proofs.Common.{◌≡◌, ℕ, ◌+◌, ◌<◌, ◌≤◌, List, length, drop, get_or, ℤ, pos, negsuc, ◌+ℤ◌, ◌*ℤ◌, unsigned_abs, ap, ◌∙◌, add-one, drop-cons, arith}
use Rattle.std.proofs.lemmas.Int.{ints}
use Rattle.std.specs.Int.{int_div_euclid, int_rem_euclid}
use Rattle.row.specs.Routing.{column_sum}

-- the sum of the columns from number i on is column i plus the sum of the columns after it
column_sum-drop : (key : List ℤ) (i : ℕ) → i < length key → column_sum (drop i key) ≡ (get_or key i (pos 0) +ℤ column_sum (drop (i + 1) key))
column_sum-drop key i h = ap column_sum (drop-cons key i (pos 0) h) ∙ rw add-one

-- adding a column moves it from the sum still to come to the sum so far, a step of the loop in
-- `sum`
pub sum_moves : (key : List ℤ) (i : ℕ) (sum column more : ℤ) → i < length key → column ≡ get_or key i (pos 0) → more ≡ (sum +ℤ column) → (more +ℤ column_sum (drop (i + 1) key)) ≡ (sum +ℤ column_sum (drop i key))
sum_moves key i sum column more h e f = let step = column_sum-drop key i h in omega (arith, ints, step)

-- a number is its quotient times the divisor, plus the remainder
pub quotient_and_remainder : (z : ℤ) (n : ℕ) → 1 ≤ n → z ≡ ((int_div_euclid z (pos n) *ℤ pos n) +ℤ pos (unsigned_abs (int_rem_euclid z (pos n))))
quotient_and_remainder (pos a) n h = omega (arith, ints)
quotient_and_remainder (negsuc a) n h = omega (arith, ints)
