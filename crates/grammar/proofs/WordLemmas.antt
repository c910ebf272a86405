-- Words that are numbers are the printed text of these numbers.
use Rattle.std.proofs.Common.{◌≡◌, ℕ, ◌%◌, ℤ, List, [], ◌∷◌, length, map, inl, inr, ◌⊎◌, Option, Some, None, Ok, refl, sym, ap, ap₂, ◌∙◌, arith}
use Rattle.std.specs.Fmt.{decimal, signed_decimal}
use Rattle.std.specs.List.{flat_map}
use Rattle.std.specs.Option.{option_map, option_and_then}
use Rattle.std.proofs.lemmas.List.{length-map}
use Rattle.std.proofs.lemmas.Option.{none-some}
use Rattle.update.specs.declared.refusal.Refusal.TheVariants.{BadNumber}
use Rattle.grammar.specs.Numbers.{whole_of, signed_of}
use Rattle.grammar.specs.Words.{each, whole, signed, wholes, columns, pairs_of}
use Rattle.grammar.specs.Spelling.{time_words}
use Rattle.grammar.proofs.DecimalLemmas.{whole_text, signed_text}
use Rattle.grammar.proofs.StepLemmas.{or_refused_ok}

-- spells a whole number in a line
pub whole_ok : (word : List ℕ) (n : ℕ) → whole word ≡ Ok n → word ≡ decimal n
unfolding whole
whole_ok word n e = whole_text word n (or_refused_ok BadNumber (whole_of word) n e)

-- spells a signed number in a line
pub signed_ok : (word : List ℕ) (z : ℤ) → signed word ≡ Ok z → word ≡ signed_decimal z
unfolding signed
signed_ok word z e = signed_text word z (or_refused_ok BadNumber (signed_of word) z e)

seen : {A : Type 0} (o : Option A) → ((x : A) × (o ≡ Some x)) ⊎ (o ≡ None)
seen (Some x) = inl (x, refl)
seen None = inr refl

-- if one word is always the printed text of its value, so are all words
module _ {A : Type 0} (read : List ℕ → Option A) (text : A → List ℕ) (exact : (word : List ℕ) (x : A) → read word ≡ Some x → word ≡ text x) where
  some_map : (x : A) (o : Option (List A)) (xs : List A) → option_map (λ ys. x ∷ ys) o ≡ Some xs → (ys : List A) × (o ≡ Some ys) × (xs ≡ x ∷ ys)
  some_map x (Some ys) xs e = (ys, refl, cc)
  some_map x None xs e = absurd cc

  -- carries the spelling of one word to all words
  pub each_text : (words : List (List ℕ)) (xs : List A) → each read words ≡ Some xs → words ≡ map text xs
  each_text [] xs e = let none : [] ≡ xs = cc in ap (map text) none
  each_text (word ∷ words) xs e =
      elim (seen (read word)) [
        | inl some ↦
            let m = some_map some.0 (each read words) xs (sym (ap (option_and_then (λ x. option_map (λ ys. x ∷ ys) (each read words))) some.1) ∙ e) in
            ap₂ (λ (w : List ℕ) (ws : List (List ℕ)). w ∷ ws) (exact word some.0 some.1) (each_text words m.0 m.1) ∙ ap (map text) (sym m.2)
        | inr none ↦ absurd (none-some xs (sym (ap (option_and_then (λ x. option_map (λ ys. x ∷ ys) (each read words))) none) ∙ e))
      ]

-- spells the pairs of an `advance` line
pub wholes_ok : (words : List (List ℕ)) (ns : List ℕ) → wholes words ≡ Ok ns → words ≡ map decimal ns
unfolding wholes
wholes_ok words ns e = each_text whole_of decimal whole_text words ns (or_refused_ok BadNumber (each whole_of words) ns e)

-- spells the row of a `change` line
pub columns_ok : (words : List (List ℕ)) (zs : List ℤ) → columns words ≡ Ok zs → words ≡ map signed_decimal zs
unfolding columns
columns_ok words zs e = each_text signed_of signed_decimal signed_text words zs (or_refused_ok BadNumber (each signed_of words) zs e)

-- an even number of printed numbers are the printed words of their pairs
pub pairs_text : (ns : List ℕ) → length ns % 2 ≡ 0 → map decimal ns ≡ flat_map time_words (pairs_of ns)
pairs_text [] e = refl
pairs_text (v ∷ []) e = absurd (omega (arith, e))
pairs_text (v ∷ s ∷ more) e = ap (λ (ws : List (List ℕ)). decimal v ∷ decimal s ∷ ws) (pairs_text more (omega (arith, e)))

-- there are as many columns as words
pub columns_length : (words : List (List ℕ)) (zs : List ℤ) → columns words ≡ Ok zs → length zs ≡ length words
columns_length words zs e = sym (ap length (columns_ok words zs e) ∙ length-map zs signed_decimal)
