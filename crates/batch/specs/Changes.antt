-- The updates of one row without the row.
use Rattle.std.specs.Prelude.{List, ℤ, map}
use Rattle.update.specs.declared.change.Update.{Update}
use Rattle.batch.specs.declared.changes.Change.{Change}

-- the updates that have these times and differences, all of one row
abbrev pub with_row : {T : Type 0} → List ℤ → List (Change T) → List (Update T)
with_row row changes = map (λ c. record { time = c.time; row = row; diff = c.diff }) changes
