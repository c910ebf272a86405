use Rattle.std.proofs.Common.{◌≡◌, ◌*◌, ◌^◌, drop, pos, neg_ℤ, ◌+ℤ◌, ◌≤ℤ◌}
use Rattle.row.specs.Routing.{column_sum}
use Rattle.row.proofs.routing.sum.Given as goal

-- the sum so far plus the sum of the columns still to come is the sum of all; and each column adds
-- at most 2^63 to its size
abbrev pub invariant-loop-column : goal.invariant-loop-column
invariant-loop-column l = record {
  value : l.sum +ℤ column_sum (drop l.column-index l.key) ≡ column_sum l.key;
  low : neg_ℤ (pos (l.column-index * 2 ^ 63)) ≤ℤ l.sum;
  high : l.sum ≤ℤ pos (l.column-index * 2 ^ 63);
}
