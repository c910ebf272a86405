-- Numbers in words: their form and their value.
use Rattle.std.specs.Prelude.{ℕ, ◌^◌, ℤ, pos, neg_ℤ, Bool, false, not, ◌&&◌, List, [], ◌∷◌, drop, Option, Some, None, nat_lt, ◌==◌, slice_index, if◌then◌else◌}
use Rattle.std.specs.Char.{is_ascii_digit}
use Rattle.std.specs.List.{list_all}
use Rattle.std.specs.Str.Parse.{digits_value}

-- digits without a leading 0, or 0 itself
abbrev pub is_numeral : List ℕ → Bool
is_numeral [] = false
is_numeral (only ∷ []) = is_ascii_digit only
is_numeral (first ∷ second ∷ rest) =
    not (first == 0x30) && list_all is_ascii_digit (first ∷ second ∷ rest)

-- the value of a numeral below 2 ^ 64
abbrev pub whole_of : List ℕ → Option ℕ
whole_of word =
    if is_numeral word && nat_lt (digits_value 10 word) (2 ^ 64) then Some (digits_value 10 word)
    else None

-- the first byte is -
abbrev pub has_minus : List ℕ → Bool
has_minus word = slice_index word 0 == 0x2d

-- a numeral, or a minus sign and a numeral other than 0
abbrev pub is_signed_numeral : List ℕ → Bool
is_signed_numeral word =
    if has_minus word then is_numeral (drop 1 word) && not (slice_index (drop 1 word) 0 == 0x30)
    else is_numeral word

-- the value is at least -2 ^ 63 and at most 2 ^ 63 - 1
abbrev pub is_in_range : List ℕ → Bool
is_in_range word = if has_minus word then not (nat_lt (2 ^ 63) (digits_value 10 (drop 1 word)))
    else nat_lt (digits_value 10 word) (2 ^ 63)

-- the value of a signed numeral
abbrev pub signed_value : List ℕ → ℤ
signed_value word = if has_minus word then neg_ℤ (pos (digits_value 10 (drop 1 word)))
    else pos (digits_value 10 word)

-- the value of a signed numeral that is in range
abbrev pub signed_of : List ℕ → Option ℤ
signed_of word = if is_signed_numeral word && is_in_range word then Some (signed_value word)
    else None
