-- The contract of std's `parse`, in the words of this crate's definitions.
use Rattle.std.proofs.Common.{◌≡◌, ℕ, ◌^◌, ◌<◌, ℤ, pos, neg_ℤ, Bool, true, false, not, ◌&&◌, cond, eqb, ltb, List, [], ◌∷◌, length, get_or, drop, Option, Some, None, Result, Ok, Err, refl, sym, ap, ◌∙◌, arith, rules, ltb-true, lt-ltb, eqb-true, w64}
use Rattle.std.specs.Char.{is_ascii_digit}
use Rattle.std.proofs.lemmas.Bool.Decides.{nat_tests}
use Rattle.std.specs.List.{list_all}
use Rattle.std.specs.Result.{OkIff, result_ok}
use Rattle.std.specs.Str.Parse.{digits_value, ParsesUnsigned, ParsesSigned}
use Rattle.std.proofs.lemmas.Str.Parse.{IsNumeralModel, numerals_by_value, parse_digits, parse_signed_digits, parse_signed_minus}
use Rattle.grammar.specs.Numbers.{is_numeral, whole_of, has_minus, is_signed_numeral, is_in_range, signed_value, signed_of}

-- our numerals fit std's lemmas about parsing
pub own : IsNumeralModel (λ ds. list_all is_ascii_digit ds ≡ true) (digits_value 10)
own = numerals_by_value _ (search rules)

-- a parse that is Ok if and only if a test holds
ok_when : {A E : Type 0} (r : Result A E) (P : Type 0) (t : Bool) (x : A) → OkIff r P x → (t ≡ true → P) → (P → t ≡ true) → result_ok r ≡ cond t (Some x) None
ok_when (Ok y) P true x h f g = ap Some h.1
ok_when (Ok y) P false x h f g = let e = g h.0 in absurd cc
ok_when (Err e) P true x h f g = absurd (h (f refl))
ok_when (Err e) P false x h f g = refl

-- takes the first test out of a conjunction
pub and-left : (a b : Bool) → (a && b) ≡ true → a ≡ true
and-left true b e = refl
and-left false b e = e

-- takes the second test out of a conjunction
pub and-right : (a b : Bool) → (a && b) ≡ true → b ≡ true
and-right true b e = e
and-right false b e = absurd cc

pub record Digits (word : List ℕ) : Type 0 where
  pub all : list_all is_ascii_digit word ≡ true
  pub some : 0 < length word

-- gives the condition under which std parses a word
pub numeral_digits : (word : List ℕ) → is_numeral word ≡ true → Digits word
numeral_digits [] e = absurd cc
numeral_digits (only ∷ []) e = record { all = ap (λ b. b && true) e; some = omega arith }
numeral_digits (first ∷ second ∷ rest) e = record { all = and-right (not (eqb first 0x30)) (list_all is_ascii_digit (first ∷ second ∷ rest)) e; some = omega arith }

-- answers whole_number from the contract of parse
pub whole_parsed : {E : Type 0} (word : List ℕ) (r : Result ℕ E) → is_numeral word ≡ true → ParsesUnsigned 64 10 word r → result_ok r ≡ whole_of word
whole_parsed word r e h =
    let d = numeral_digits word e in
    let small = ltb (digits_value 10 word) (2 ^ 64) in
    let one : result_ok r ≡ cond small (Some (digits_value 10 word)) None =
    ok_when r _ small _ (parse_digits own 64 word r h d.all) (λ t. (d.some, ltb-true _ _ t)) (λ p. lt-ltb _ _ p.1) in
    one ∙ ap (λ b. cond (b && small) (Some (digits_value 10 word)) None) (sym e)

-- answers whole_number for a word that is not a numeral
pub not_whole : (word : List ℕ) → is_numeral word ≡ false → whole_of word ≡ None
not_whole word e = ap (λ b. cond (b && ltb (digits_value 10 word) (2 ^ 64)) (Some (digits_value 10 word)) None) e

abbrev signed_by : Bool → List ℕ → Option ℤ
signed_by minus word = cond (cond minus (is_numeral (drop 1 word) && not (eqb (get_or (drop 1 word) 0 0) 0x30)) (is_numeral word)
    && cond minus (not (ltb (2 ^ 63) (digits_value 10 (drop 1 word)))) (ltb (digits_value 10 word) (2 ^ 63)))
    (Some (cond minus (neg_ℤ (pos (digits_value 10 (drop 1 word)))) (pos (digits_value 10 word)))) None

abbrev numeral_by : Bool → List ℕ → Bool
numeral_by minus word = cond minus (is_numeral (drop 1 word) && not (eqb (get_or (drop 1 word) 0 0) 0x30)) (is_numeral word)

parsed_by : {E : Type 0} (word : List ℕ) (r : Result ℤ E) (minus : Bool) → has_minus word ≡ minus → numeral_by minus word ≡ true → ParsesSigned w64 10 word r → result_ok r ≡ signed_by minus word
parsed_by word r true m e h =
    let d = numeral_digits (drop 1 word) (and-left _ _ e) in
    let small = not (ltb (2 ^ 63) (digits_value 10 (drop 1 word))) in
    let one : result_ok r ≡ cond small (Some (neg_ℤ (pos (digits_value 10 (drop 1 word))))) None =
    ok_when r _ small _ (parse_signed_minus own w64 word r h (eqb-true _ _ m)) (λ t. (d.all, d.some, grind (arith, nat_tests))) (λ p. let le = p.2 in grind (arith, nat_tests)) in
    one ∙ ap (λ b. cond (b && small) (Some (neg_ℤ (pos (digits_value 10 (drop 1 word))))) None) (sym e)
parsed_by word r false m e h =
    let d = numeral_digits word e in
    let small = ltb (digits_value 10 word) (2 ^ 63) in
    let one : result_ok r ≡ cond small (Some (pos (digits_value 10 word))) None =
    ok_when r _ small _ (parse_signed_digits own w64 word r h d.all) (λ t. (d.some, ltb-true _ _ t)) (λ p. lt-ltb _ _ p.1) in
    one ∙ ap (λ b. cond (b && small) (Some (pos (digits_value 10 word))) None) (sym e)

-- answers signed_number from the contract of parse
pub signed_parsed : {E : Type 0} (word : List ℕ) (r : Result ℤ E) → is_signed_numeral word ≡ true → ParsesSigned w64 10 word r → result_ok r ≡ signed_of word
signed_parsed word r e h = parsed_by word r (has_minus word) refl e h

-- answers signed_number for a word that is not a signed numeral
pub not_signed : (word : List ℕ) → is_signed_numeral word ≡ false → signed_of word ≡ None
not_signed word e = ap (λ b. cond (b && is_in_range word) (Some (signed_value word)) None) e
