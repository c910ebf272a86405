-- The form of names.
use Rattle.std.specs.Prelude.{ℕ, Bool, ◌&&◌, ◌||◌, List, length, nat_lt, ◌==◌, slice_index}
use Rattle.std.specs.Char.{is_ascii_alphabetic, is_ascii_alphanumeric}
use Rattle.std.specs.List.{list_all}

-- a letter, a digit or _
abbrev pub is_name_byte : ℕ → Bool
is_name_byte b = is_ascii_alphanumeric b || b == 0x5f

-- 1 to 32 of these bytes, of which the first is a letter
abbrev pub is_name : List ℕ → Bool
is_name word =
    nat_lt (length word) 33 && is_ascii_alphabetic (slice_index word 0) && list_all is_name_byte word
