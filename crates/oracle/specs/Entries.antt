-- The width of a bag's rows.
use Rattle.std.specs.Prelude.{ℕ, Bool, List, length, eqb}
use Rattle.std.specs.List.{list_all}
use Rattle.update.specs.Bags.{Entry}

-- each row has this many columns
abbrev pub all_wide : ℕ → List Entry → Bool
all_wide columns es = list_all (λ e. eqb (length e.row) columns) es
