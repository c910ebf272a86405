-- When a reducer may refuse rows.
use Rattle.std.specs.Prelude.{List, FitsSigned}
use Rattle.std.specs.Int.{w64}
use Rattle.update.specs.Bags.{Entry}
use Rattle.plan.specs.Reductions.{sum_of_counts}

-- the sum of the counts is no 64-bit number
abbrev pub HasLargeSum : List Entry → Type 0
HasLargeSum entries = FitsSigned w64 (sum_of_counts entries) → ⊥
