use Rattle.std.proofs.Common.{◌≡◌, ◌<◌, ◌≤◌, ◌-◌, true, length}
use Rattle.std.specs.List.{AllWithin}
use Rattle.columns.specs.Keys.{is_row_left_behind}
use Rattle.columns.proofs.key_search.last_step.Given as goal

-- the rows so far are left behind, and the next step is at least one row long
abbrev pub invariant-loop-step : goal.invariant-loop-step
invariant-loop-step l = record {
  onward : l.from ≤ l.at;
  within : l.at ≤ length l.rows;
  steps : 0 < l.step;
  before : AllWithin (λ r. is_row_left_behind l.key l.through r ≡ true) l.rows l.from l.at;
}

-- the number of rows that are still to be passed decreases
abbrev pub decreases-loop-step : goal.decreases-loop-step
decreases-loop-step l = length l.rows - l.at
