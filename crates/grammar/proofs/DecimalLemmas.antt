-- A number is read from its printed text, and from no other word.
use Rattle.std.proofs.Common.{◌≡◌, ℕ, zero, suc, ◌≤◌, ℤ, pos, negsuc, neg_ℤ, drop, ap₂, w64, le-ltb, Bool, ltb-false, eqb-true, ◌^◌, ◌<◌, true, false, not, ◌&&◌, cond, eqb, ltb, List, [], ◌∷◌, length, get_or, Some, None, refl, sym, ap, ◌∙◌, inl, inr, arith, ltb-true, lt-ltb, ne_eqb, eq-eqb}
use Rattle.std.specs.Char.{is_ascii_digit}
use Rattle.std.specs.Fmt.{decimal, signed_decimal}
use Rattle.std.specs.List.{list_all}
use Rattle.std.specs.Int.RustNames.{FitsSigned}
use Rattle.std.specs.Str.Parse.{digits_value}
use Rattle.std.proofs.lemmas.Bool.{cases_lt}
use Rattle.std.proofs.lemmas.Fmt.{decimal_digit, decimal_nonempty, first_decimal, digits_decimal, digits_value-decimal, decimal-digits_value}
use Rattle.grammar.specs.Numbers.{is_numeral, whole_of, has_minus, signed_of}
use Rattle.grammar.proofs.TextLemmas.{some_is}
use Rattle.grammar.proofs.NumberLemmas.{own, and-left, and-right, numeral_digits}

lead : (w : List ℕ) → is_numeral w ≡ true → get_or w 0 0 ≡ 48 → length w ≡ 1
lead [] e h = absurd cc
lead (x ∷ []) e h = refl
lead (x ∷ y ∷ r) e h =
    let not_zero : not (eqb x 0x30) ≡ true = and-left (not (eqb x 0x30)) (list_all is_ascii_digit (x ∷ y ∷ r)) e in
    let no : false ≡ true = sym (ap not (eq-eqb x 0x30 h)) ∙ not_zero in
    absurd cc

is_one : (w : List ℕ) → list_all is_ascii_digit w ≡ true → 0 < length w → (get_or w 0 0 ≡ 48 → length w ≡ 1) → is_numeral w ≡ true
is_one [] e some h = absurd (omega arith)
is_one (x ∷ []) e some h = and-left (is_ascii_digit x) true e
is_one (x ∷ y ∷ r) e some h =
    let other : eqb x 0x30 ≡ false = ne_eqb x 0x30 (λ z. absurd (let one = h z in omega arith)) in
    ap (λ b. not b && list_all is_ascii_digit (x ∷ y ∷ r)) other ∙ e

whole_is : (w : List ℕ) (n : ℕ) → is_numeral w ≡ true → digits_value 10 w ≡ n → n < 2 ^ 64 → whole_of w ≡ Some n
whole_is w n e v lt =
    ap (λ b. cond (b && ltb (digits_value 10 w) (2 ^ 64)) (Some (digits_value 10 w)) None) e
    ∙ ap (λ m. cond (ltb m (2 ^ 64)) (Some m) None) v ∙ ap (λ b. cond b (Some n) None) (lt-ltb n (2 ^ 64) lt)

lead_decimal : (n : ℕ) → n < 2 ^ 64 → get_or (decimal n) 0 0 ≡ 48 → length (decimal n) ≡ 1
lead_decimal n lt h =
    elim (cases_lt 0 n) [
      | inl some ↦ let first = first_decimal n some lt in absurd (omega arith)
      | inr none ↦ let zero : n ≡ 0 = omega arith in ap (λ m. length (decimal m)) zero ∙ ap length (decimal_digit 0 (omega arith))
    ]

-- the printed text of a whole number is read as that number, if it fits in 64 bits
pub whole_again : (n : ℕ) → n < 2 ^ 64 → whole_of (decimal n) ≡ Some n
whole_again n lt = whole_is (decimal n) n (is_one (decimal n) (digits_decimal own n lt) (decimal_nonempty n lt) (lead_decimal n lt)) (digits_value-decimal own n lt) lt

-- a numeral is the printed text of its value
pub numeral_text : (w : List ℕ) → is_numeral w ≡ true → digits_value 10 w < 2 ^ 64 → decimal (digits_value 10 w) ≡ w
numeral_text w e small = let d = numeral_digits w e in decimal-digits_value own w d.all d.some (lead w e) small

-- a word that is a whole number is the printed text of that number
pub whole_text : (w : List ℕ) (n : ℕ) → whole_of w ≡ Some n → w ≡ decimal n
whole_text w n e =
    let h = some_is (is_numeral w && ltb (digits_value 10 w) (2 ^ 64)) (digits_value 10 w) n e in
    let one = and-left (is_numeral w) (ltb (digits_value 10 w) (2 ^ 64)) h.0 in
    let small = ltb-true _ _ (and-right (is_numeral w) (ltb (digits_value 10 w) (2 ^ 64)) h.0) in
    sym (numeral_text w one small) ∙ ap decimal h.1

-- the numeral after a minus sign
minus_text : (ds : List ℕ) (v : ℕ) → digits_value 10 ds ≡ v → is_numeral ds ≡ true → not (eqb (get_or ds 0 0) 0x30) ≡ true → v < 2 ^ 64 → signed_decimal (neg_ℤ (pos v)) ≡ 45 ∷ ds
minus_text ds zero e one other small =
    let text : decimal 0 ≡ ds = sym (ap decimal e) ∙ numeral_text ds one (omega (arith, e)) in
    let first : get_or ds 0 0 ≡ 48 = sym (ap (λ w. get_or w 0 0) text) ∙ ap (λ w. get_or w 0 0) (decimal_digit 0 (omega arith)) in
    let no : false ≡ true = sym (ap not (eq-eqb (get_or ds 0 0) 0x30 first)) ∙ other in
    absurd cc
minus_text ds (suc m) e one other small = ap (λ w. 45 ∷ w) (sym (ap decimal e) ∙ numeral_text ds one (rw e small))

opened : (w : List ℕ) → get_or w 0 0 ≡ 45 → w ≡ 45 ∷ drop 1 w
opened [] e = absurd (omega (arith, e))
opened (x ∷ w) e = ap (λ (y : ℕ). y ∷ w) e

signed_by : (w : List ℕ) (z : ℤ) (minus : Bool) → has_minus w ≡ minus
    → cond (cond minus (is_numeral (drop 1 w) && not (eqb (get_or (drop 1 w) 0 0) 0x30)) (is_numeral w) && cond minus (not (ltb (2 ^ 63) (digits_value 10 (drop 1 w)))) (ltb (digits_value 10 w) (2 ^ 63)))
    (Some (cond minus (neg_ℤ (pos (digits_value 10 (drop 1 w)))) (pos (digits_value 10 w)))) None ≡ Some z
    → w ≡ signed_decimal z
signed_by w z true m e =
    let ds = drop 1 w in
    let form = is_numeral ds && not (eqb (get_or ds 0 0) 0x30) in
    let fits = not (ltb (2 ^ 63) (digits_value 10 ds)) in
    let h = some_is (form && fits) (neg_ℤ (pos (digits_value 10 ds))) z e in
    let formed = and-left form fits h.0 in
    let le : digits_value 10 ds ≤ 2 ^ 63 = ltb-false _ _ (not_true (ltb (2 ^ 63) (digits_value 10 ds)) (and-right form fits h.0)) in
    opened w (eqb-true _ _ m) ∙ sym (minus_text ds (digits_value 10 ds) refl (and-left (is_numeral ds) _ formed) (and-right (is_numeral ds) _ formed) (omega (arith, le))) ∙ ap signed_decimal h.1
  where
    not_true : (b : Bool) → not b ≡ true → b ≡ false
    not_true true h = absurd cc
    not_true false h = refl
signed_by w z false m e =
    let fits = ltb (digits_value 10 w) (2 ^ 63) in
    let h = some_is (is_numeral w && fits) (pos (digits_value 10 w)) z e in
    let small : digits_value 10 w < 2 ^ 63 = ltb-true _ _ (and-right (is_numeral w) fits h.0) in
    sym (numeral_text w (and-left (is_numeral w) fits h.0) (omega (arith, small))) ∙ ap signed_decimal h.1

-- a word that is a signed number is the printed text of that number
pub signed_text : (w : List ℕ) (z : ℤ) → signed_of w ≡ Some z → w ≡ signed_decimal z
signed_text w z e = signed_by w z (has_minus w) refl e

digit_first : (n : ℕ) → n < 2 ^ 64 → 48 ≤ get_or (decimal n) 0 0
digit_first n lt =
    elim (cases_lt 0 n) [
      | inl some ↦ let first = first_decimal n some lt in omega arith
      | inr none ↦ let zero_is : n ≡ 0 = omega arith in let first : get_or (decimal n) 0 0 ≡ 48 = ap (λ m. get_or (decimal m) 0 0) zero_is ∙ ap (λ w. get_or w 0 0) (decimal_digit 0 (omega arith)) in omega arith
    ]

numeral_again : (n : ℕ) → n < 2 ^ 64 → is_numeral (decimal n) ≡ true
numeral_again n lt = is_one (decimal n) (digits_decimal own n lt) (decimal_nonempty n lt) (lead_decimal n lt)

signed_is : (w : List ℕ) (z : ℤ) (minus : Bool) → has_minus w ≡ minus
    → cond minus (is_numeral (drop 1 w) && not (eqb (get_or (drop 1 w) 0 0) 0x30)) (is_numeral w) ≡ true
    → cond minus (not (ltb (2 ^ 63) (digits_value 10 (drop 1 w)))) (ltb (digits_value 10 w) (2 ^ 63)) ≡ true
    → cond minus (neg_ℤ (pos (digits_value 10 (drop 1 w)))) (pos (digits_value 10 w)) ≡ z
    → signed_of w ≡ Some z
signed_is w z minus m form fits value =
    ap (λ b. cond (cond b (is_numeral (drop 1 w) && not (eqb (get_or (drop 1 w) 0 0) 0x30)) (is_numeral w) && cond b (not (ltb (2 ^ 63) (digits_value 10 (drop 1 w)))) (ltb (digits_value 10 w) (2 ^ 63)))
    (Some (cond b (neg_ℤ (pos (digits_value 10 (drop 1 w)))) (pos (digits_value 10 w)))) None) m
    ∙ ap₂ (λ a b. cond (a && b) (Some (cond minus (neg_ℤ (pos (digits_value 10 (drop 1 w)))) (pos (digits_value 10 w)))) None) form fits
    ∙ ap Some value

both : (a b : Bool) → a ≡ true → b ≡ true → (a && b) ≡ true
both true b e f = f
both false b e f = e

-- the printed text of a signed number is read as that number
pub signed_again : (z : ℤ) → FitsSigned w64 z → signed_of (signed_decimal z) ≡ Some z
signed_again (pos n) fits =
    let lt : n < 2 ^ 63 = fits.sfits in
    let value = digits_value-decimal own n (omega (arith, lt)) in
    signed_is (decimal n) (pos n) false (ne_eqb (get_or (decimal n) 0 0) 0x2d (λ e. absurd (let d = digit_first n (omega (arith, lt)) in omega arith)))
    (numeral_again n (omega (arith, lt))) (lt-ltb _ _ (rw value lt)) (ap pos value)
signed_again (negsuc n) fits =
    let lt : n < 2 ^ 63 = fits.sfits in
    let value = digits_value-decimal own (suc n) (omega (arith, lt)) in
    let first = first_decimal (suc n) (omega arith) (omega (arith, lt)) in
    signed_is (45 ∷ decimal (suc n)) (negsuc n) true refl
    (both (is_numeral (decimal (suc n))) _ (numeral_again (suc n) (omega (arith, lt))) (ap not (ne_eqb (get_or (decimal (suc n)) 0 0) 0x30 (λ e. absurd (omega arith)))))
    (ap not (le-ltb _ _ (rw value (omega (arith, lt)))))
    (ap (λ m. neg_ℤ (pos m)) value)
