-- Whole numbers satisfy the laws of times. Their order is total: the join is the greater and the
-- meet the lesser.
use Rattle.std.specs.Prelude.{ℕ, IsTrue, nat_le, max, min}
use Rattle.std.specs.Ordering.{nat_cmp}
use Rattle.std.proofs.Common.{arith}
use Rattle.std.proofs.lemmas.Bool.Decides.{nat_tests}
use Rattle.lattice.specs.Times.{Times}
use Rattle.lattice.specs.Order.{PartialOrderLaws, LatticeLaws, ExtendsLaws}

-- the order of numbers; the join is the greater, the meet the lesser, and 0 the least
abbrev pub nat_times : Times ℕ
nat_times = record { below = nat_le; joined = max; met = min; least = 0 }

-- whole numbers are partially ordered
pub nat_order : PartialOrderLaws nat_times
nat_order = record {
  reflexive = λ t. grind (arith, nat_tests);
  transitive = λ t u v h k. grind (arith, nat_tests);
  antisymmetric = λ t u h k. grind (arith, nat_tests);
}

-- max and min are the least upper and the greatest lower bound
pub nat_bounds : LatticeLaws nat_times
nat_bounds = record {
  join_left = λ t u. grind (arith, nat_tests);
  join_right = λ t u. grind (arith, nat_tests);
  join_least = λ t u v h k. grind (arith, nat_tests);
  meet_left = λ t u. grind (arith, nat_tests);
  meet_right = λ t u. grind (arith, nat_tests);
  meet_greatest = λ t u v h k. grind (arith, nat_tests);
}

-- the order of sorting is the order of numbers
pub nat_extends : ExtendsLaws nat_times nat_cmp
nat_extends = record {
  extends = λ t u h. grind (arith, nat_tests);
  exact = λ t u e. grind (arith, nat_tests);
}

-- 0 is the least time
pub nat_lowest : (t : ℕ) → IsTrue (nat_le 0 t)
nat_lowest t = grind (arith, nat_tests)
