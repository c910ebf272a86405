use Rattle.std.proofs.Common.{◌≡◌, ◌≤◌, ◌-◌, true, false}
use Rattle.std.specs.List.{AllWithin}
use Rattle.columns.specs.Keys.{is_row_left_behind}
use Rattle.columns.proofs.key_search.first_kept.Given as goal

-- the rows below the lower bound are left behind, and those from the upper bound on are not
abbrev pub invariant-loop-low : goal.invariant-loop-low
invariant-loop-low l = record {
  onward : l.fn.part.start ≤ l.low;
  ordered : l.low ≤ l.high;
  within : l.high ≤ l.fn.part.end;
  before : AllWithin (λ r. is_row_left_behind l.key l.through r ≡ true) l.rows l.fn.part.start l.low;
  rest : AllWithin (λ r. is_row_left_behind l.key l.through r ≡ false) l.rows l.high l.fn.part.end;
}

-- the part that is still searched gets shorter
abbrev pub decreases-loop-low : goal.decreases-loop-low
decreases-loop-low l = l.high - l.low
