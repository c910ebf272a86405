-- When a reduction may be refused.
use Rattle.std.specs.Prelude.{ℕ, ℤ, List}
use Rattle.std.specs.List.{filter}
use Rattle.update.specs.Bags.{Entry}
use Rattle.plan.specs.Reductions.{has_key}
use Rattle.reducer.specs.Refusals.{HasLargeSum}

-- the total count of some key's rows does not fit in 64 bits
abbrev pub HasLargeNumber : ℕ → List Entry → Type 0
HasLargeNumber k es = (key : List ℤ) × HasLargeSum (filter (has_key k key) es)
