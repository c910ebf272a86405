-- Whole numbers in digits.
use Rattle.std.specs.Prelude.{ℕ, ◌^◌, Bool, not, ◌&&◌, List, length, Option, Some, None, nat_lt, ◌==◌, if◌then◌else◌}
use Rattle.std.specs.Char.{is_ascii_digit}
use Rattle.std.specs.List.{list_all}
use Rattle.std.specs.Str.Parse.{digits_value}

-- one digit or more, and nothing else
abbrev pub is_whole : List ℕ → Bool
is_whole ds = not (length ds == 0) && list_all is_ascii_digit ds

-- the number, if it is below the limit
abbrev pub below : ℕ → ℕ → Option ℕ
below limit n = if nat_lt n limit then Some n else None

-- the number that the digits spell, if it is below 2 ^ 64
unfoldable pub whole_of : List ℕ → Option ℕ
whole_of ds = if is_whole ds then below (2 ^ 64) (digits_value 10 ds) else None
