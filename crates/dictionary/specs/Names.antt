-- Names and their numbers.
use Rattle.std.specs.Prelude.{ℕ, List, [], ◌∷◌, ◌++◌, Option, is_some, position, if◌then◌else◌}
use Rattle.std.specs.Str.{bytes_eq}

-- the number of the name, if it has one
abbrev pub number_in : List (List ℕ) → List ℕ → Option ℕ
number_in names name = position (bytes_eq name) names

-- the names with this one, which is the last if it is new
abbrev pub with_name : List (List ℕ) → List ℕ → List (List ℕ)
with_name names name = if is_some (number_in names name) then names else names ++ (name ∷ [])
