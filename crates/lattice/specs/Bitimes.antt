-- Bitemporal timestamps: a pair of a valid time and a system time.
use Rattle.std.specs.Prelude.{ℕ, Bool}
use Rattle.std.specs.Ordering.{nat_cmp}
use Rattle.std.specs.declared.cmp.Ordering.{Ordering}
use Rattle.lattice.specs.declared.product.Pair.{Pair}
use Rattle.lattice.specs.Times.{Times}
use Rattle.lattice.specs.Naturals.{nat_times}
use Rattle.lattice.specs.Pairs.{pair_times, pair_cmp}

-- a valid time and a system time
abbrev pub Bitime : Type 0
Bitime = Pair ℕ ℕ

-- the order of both components, and its operations
abbrev pub bitime_times : Times Bitime
bitime_times = pair_times nat_times nat_times

-- at or before in both components
abbrev pub bitime_below : Bitime → Bitime → Bool
bitime_below = bitime_times.below

-- the order of sorting: by valid time, then by system time
abbrev pub bitime_cmp : Bitime → Bitime → Ordering
bitime_cmp = pair_cmp nat_cmp nat_cmp

-- the least time at or after both
abbrev pub bitime_join : Bitime → Bitime → Bitime
bitime_join = bitime_times.joined
