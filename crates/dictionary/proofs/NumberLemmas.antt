-- The contract of std's `parse`, in the words of `Digits`.
use Rattle.std.proofs.Common.{◌≡◌, ℕ, ◌^◌, ◌<◌, Bool, true, false, not, ◌&&◌, cond, eqb, ltb, List, [], ◌∷◌, length, Some, None, Result, Ok, Err, refl, sym, ap, ◌∙◌, arith, rules, ltb-true, lt-ltb}
use Rattle.std.specs.Char.{is_ascii_digit}
use Rattle.std.specs.List.{list_all}
use Rattle.std.specs.Result.{OkIff, result_ok}
use Rattle.std.specs.Str.{IsAscii, IsUtf8}
use Rattle.std.specs.Str.Parse.{digits_value, ParsesUnsigned}
use Rattle.std.proofs.lemmas.Bool.Decides.{nat_tests}
use Rattle.std.proofs.lemmas.Str.{IsUtf8-from_ascii}
use Rattle.std.proofs.lemmas.Str.Parse.{IsNumeralModel, numerals_by_value, parse_digits}
use Rattle.dictionary.specs.Digits.{is_whole, whole_of}

-- our digits fit std's lemmas about parsing
pub own : IsNumeralModel (λ ds. list_all is_ascii_digit ds ≡ true) (digits_value 10)
own = numerals_by_value _ (search rules)

-- a parse that is Ok if and only if a test holds
ok_when : {A E : Type 0} (r : Result A E) (P : Type 0) (t : Bool) (x : A) → OkIff r P x → (t ≡ true → P) → (P → t ≡ true) → result_ok r ≡ cond t (Some x) None
ok_when (Ok y) P true x h f g = ap Some h.1
ok_when (Ok y) P false x h f g = let e = g h.0 in absurd cc
ok_when (Err e) P true x h f g = absurd (h (f refl))
ok_when (Err e) P false x h f g = refl

-- takes the second test out of a conjunction
pub and-right : (a b : Bool) → (a && b) ≡ true → b ≡ true
and-right true b e = e
and-right false b e = absurd cc

-- takes the first test out of a conjunction
pub and-left : (a b : Bool) → (a && b) ≡ true → a ≡ true
and-left true b e = refl
and-left false b e = e

some_digits : (ds : List ℕ) → is_whole ds ≡ true → 0 < length ds
some_digits [] e = absurd cc
some_digits (d ∷ ds) e = omega arith

-- answers `number` from the contract of parse
pub whole_parsed : {E : Type 0} (ds : List ℕ) (r : Result ℕ E) → is_whole ds ≡ true → ParsesUnsigned 64 10 ds r → result_ok r ≡ whole_of ds
unfolding whole_of
whole_parsed ds r e h =
    let all = and-right (not (eqb (length ds) 0)) (list_all is_ascii_digit ds) e in
    let small = ltb (digits_value 10 ds) (2 ^ 64) in
    let one : result_ok r ≡ cond small (Some (digits_value 10 ds)) None =
    ok_when r _ small _ (parse_digits own 64 ds r h all) (λ t. (some_digits ds e, ltb-true _ _ t)) (λ p. lt-ltb _ _ p.1) in
    one ∙ ap (λ b. cond b (cond small (Some (digits_value 10 ds)) None) None) (sym e)

-- answers `number` for what is no whole number
pub not_whole : (ds : List ℕ) → is_whole ds ≡ false → whole_of ds ≡ None
unfolding whole_of
not_whole ds e = ap (λ b. cond b (cond (ltb (digits_value 10 ds) (2 ^ 64)) (Some (digits_value 10 ds)) None) None) e

digits_are_ascii : (ds : List ℕ) → list_all is_ascii_digit ds ≡ true → IsAscii ds
digits_are_ascii [] e = search rules
digits_are_ascii (d ∷ ds) e =
    let rest = digits_are_ascii ds (and-right (is_ascii_digit d) (list_all is_ascii_digit ds) e) in
    let first : is_ascii_digit d ≡ true = and-left (is_ascii_digit d) (list_all is_ascii_digit ds) e in
    let low : d < 128 = grind (arith, nat_tests) in
    λ i. grind (arith, rest)

-- digits are text
pub digits_are_text : (ds : List ℕ) → is_whole ds ≡ true → IsUtf8 ds
digits_are_text ds e = IsUtf8-from_ascii ds (digits_are_ascii ds (and-right (not (eqb (length ds) 0)) (list_all is_ascii_digit ds) e))
