-- The line of one change.
use Rattle.std.specs.Prelude.{ℕ, ℤ, List, [], ◌∷◌, ◌++◌, codes, decimal}
use Rattle.std.specs.Fmt.{signed_decimal}

-- change TABLE V S DIFF, and then the row, each of whose numbers comes after a space
abbrev pub change_text : List ℕ → ℕ → ℕ → ℤ → List ℕ → List ℕ
change_text table valid revision diff row = codes "change "
    ++ (table ++ (codes " " ++ (decimal valid ++ (codes " " ++ (decimal revision ++ (codes " " ++ (signed_decimal diff ++ (row ++ 10 ∷ []))))))))
