use Rattle.std.proofs.Common.{◌≡◌, ◌≤◌, ◌*◌, ◌^◌, take}
use Rattle.std.specs.Prelude.{unsigned_abs}
use Rattle.plan.specs.Reductions.{sum_of_counts}
use Rattle.reducer.proofs.count.wide_sum.Given as goal

-- the sum so far, and a bound on it by which 128 bits are enough
abbrev pub invariant-loop-i : goal.invariant-loop-i
invariant-loop-i g l = record {
  sum : l.sum ≡ sum_of_counts (take l.i (g.C.RowCounts.entries l.rows));
  small : unsigned_abs l.sum ≤ l.i * 2 ^ 63;
}
