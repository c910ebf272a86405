-- Amounts: decimal numbers with at most so many places, as numbers of smallest units.
use Rattle.std.specs.Prelude.{ℕ, zero, suc, ◌+◌, ◌-◌, ◌*◌, ◌/◌, ◌%◌, ◌^◌, ℤ, pos, neg_ℤ, unsigned_abs, List, [], ◌∷◌, ◌++◌, length, take, drop, Option, Some, None, nat_lt, ◌==◌, if◌then◌else◌, position, decimal, slice_index}
use Rattle.std.specs.Int.{is_negative}
use Rattle.std.specs.Option.{option_map, option_and_then}
use Rattle.dictionary.specs.Digits.{whole_of, below}

-- what stands before a point at this index and what stands after it; nothing may not stand after it
abbrev pub parts_at : Option ℕ → List ℕ → Option (List ℕ × List ℕ)
parts_at None ds = Some (ds, [])
parts_at (Some point) ds =
    if length (drop (point + 1) ds) == 0 then None else Some (take point ds, drop (point + 1) ds)

-- what stands before the first point and what stands after it; all and nothing if there is none
abbrev pub parts_of : List ℕ → Option (List ℕ × List ℕ)
parts_of ds = parts_at (position (λ b. b == 46) ds) ds

-- the units that the digits after a point spell, if there are not more than the places
abbrev pub units_after : ℕ → List ℕ → Option ℕ
units_after places ds = if length ds == 0 then Some 0
    else if nat_lt places (length ds) then None
    else option_and_then (λ n. below (2 ^ 64) (n * 10 ^ (places - length ds))) (whole_of ds)

-- whole units and units after the point, if both are there and make less than 2 ^ 63 units
abbrev pub joined : ℕ → Option ℕ → Option ℕ → Option ℕ
joined places whole fraction = option_and_then
    (λ w. option_and_then (λ f. below (2 ^ 63) (w * 10 ^ places + f)) fraction) whole

-- the units that a text without a sign spells
unfoldable pub magnitude_of : ℕ → List ℕ → Option ℕ
magnitude_of places ds =
    option_and_then (λ p. joined places (whole_of p.0) (units_after places p.1)) (parts_of ds)

-- the units that a text spells: an optional sign before digits, and a point among them
unfoldable pub amount_of : ℕ → List ℕ → Option ℤ
amount_of places text =
    if slice_index text 0 == 45 then option_map (λ m. neg_ℤ (pos m)) (magnitude_of places (drop 1 text))
    else if slice_index text 0 == 43 then option_map (λ m. pos m) (magnitude_of places (drop 1 text))
    else option_map (λ m. pos m) (magnitude_of places text)

-- the lowest digits of a number, as many as said
unfoldable pub lowest : ℕ → ℕ → List ℕ
lowest zero n = []
lowest (suc k) n = (48 + n / 10 ^ k % 10) ∷ lowest k n

-- the point and the digits after it, if there are places
abbrev pub after_point : ℕ → ℕ → List ℕ
after_point places n = if places == 0 then [] else 46 ∷ lowest places n

-- a minus sign, if the number is negative
abbrev pub sign_text : ℤ → List ℕ
sign_text z = if is_negative z then 45 ∷ [] else []

-- the text of so many units
unfoldable pub amount_text : ℕ → ℤ → List ℕ
amount_text places z = sign_text z
    ++ (decimal (unsigned_abs z / 10 ^ places) ++ after_point places (unsigned_abs z))
