-- Powers of ten.
use Rattle.std.proofs.Common.{ℕ, zero, suc, ◌<◌, ◌^◌, arith}

-- a power of ten is not 0
pub ten_power-positive : (n : ℕ) → 0 < 10 ^ n
ten_power-positive zero = omega arith
ten_power-positive (suc n) = let h = ten_power-positive n in omega arith
