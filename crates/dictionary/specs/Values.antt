-- Texts as numbers of a kind, and back.
use Rattle.std.specs.Prelude.{◌≡◌, ℕ, ◌^◌, ℤ, pos, List, ◌++◌, Option, None, ⊤, slice_get, unsigned_abs, if◌then◌else◌}
use Rattle.std.specs.Fmt.{signed_decimal}
use Rattle.std.specs.Int.{is_negative}
use Rattle.std.specs.Option.{option_map, option_and_then, unwrap_or}
use Rattle.dictionary.specs.declared.kind.Kind.{Kind}
use Rattle.dictionary.specs.declared.kind.Kind.TheVariants as kind
use Rattle.dictionary.specs.Digits.{whole_of, below}
use Rattle.dictionary.specs.Decimals.{amount_of, amount_text}

-- the number that the text spells in this kind; of a date nothing is said
abbrev pub ReadsNumber : Kind → List ℕ → Option ℤ → Type 0
ReadsNumber kind.Whole text r =
    r ≡ option_map (λ n. pos n) (option_and_then (λ n. below (2 ^ 63) n) (whole_of text))
ReadsNumber kind.Signed text r = r ≡ amount_of 0 text
ReadsNumber (kind.Decimal places) text r = r ≡ amount_of places.count text
ReadsNumber kind.Date text r = ⊤
ReadsNumber kind.Code text r = r ≡ None

-- the name with this number, or the number if there is no such name
abbrev pub name_text : List (List ℕ) → ℤ → List ℕ
name_text names z = if is_negative z then signed_decimal z
    else unwrap_or (slice_get names (unsigned_abs z)) (signed_decimal z)

-- the text of the number in this kind was added to the text; of a date nothing is said
abbrev pub WritesValue : Kind → List (List ℕ) → ℤ → List ℕ → List ℕ → Type 0
WritesValue kind.Whole names z before after = after ≡ before ++ signed_decimal z
WritesValue kind.Signed names z before after = after ≡ before ++ signed_decimal z
WritesValue (kind.Decimal places) names z before after = after ≡ before ++ amount_text places.count z
WritesValue kind.Date names z before after = ⊤
WritesValue kind.Code names z before after = after ≡ before ++ name_text names z
