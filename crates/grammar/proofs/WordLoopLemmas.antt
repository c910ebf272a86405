-- The loops that read words one after another.
use Rattle.std.proofs.Common.{◌≡◌, ℕ, ◌+◌, ◌<◌, ◌≤◌, List, [], ◌∷◌, ◌++◌, length, map, drop, get_or, Option, Some, None, Ok, Err, Bor, refl, sym, ap, ◌∙◌, append_assoc, add-one}
use Rattle.std.specs.Option.{option_map, option_and_then}
use Rattle.std.proofs.lemmas.List.{append-nil, drop_all}
use Rattle.std.proofs.Math.Seq.{drop-cons}
use Rattle.update.specs.declared.refusal.Refusal.{Refusal}
use Rattle.update.specs.declared.refusal.Refusal.TheVariants.{BadNumber}
use Rattle.grammar.specs.declared.fault.LineError.{LineError}
use Rattle.grammar.specs.declared.fault.LineError.TheVariants as error
use Rattle.grammar.specs.Outcomes.{Fails}
use Rattle.grammar.specs.Words.{each, number}

-- the values that were read, followed by those still to be read
abbrev pub with_front : {A : Type 0} → List A → Option (List A) → Option (List A)
with_front front o = option_map (λ xs. front ++ xs) o

-- the bytes behind the references that a loop goes over
abbrev pub texts : List (Bor (List ℕ)) → List (List ℕ)
texts words = map (λ (w : Bor (List ℕ)). w.now) words

-- the value of a word that was accepted
pub is_read : {A : Type 0} (o : Option A) (x : A) → number o ≡ Ok x → o ≡ Some x
is_read (Some y) x e = cc
is_read None x e = absurd cc

-- a word is refused only because it has no value, with `BadNumber`
pub not_read : {A : Type 0} (o : Option A) (w : Refusal) → number o ≡ Err w → (o ≡ None) × (w ≡ BadNumber)
not_read (Some y) w e = absurd cc
not_read None w e = (refl, cc)

regroup : {A : Type 0} (front : List A) (x : A) (o : Option (List A)) → with_front front (option_map (λ xs. x ∷ xs) o) ≡ with_front (front ++ x ∷ []) o
regroup front x (Some xs) = ap Some (simp append_assoc)
regroup front x None = refl

module _ {A : Type 0} (read : List ℕ → Option A) (words : List (Bor (List ℕ))) (d : Bor (List ℕ)) where
  here : (i : ℕ) → i < length words → each read (texts (drop i words)) ≡ option_and_then (λ x. option_map (λ xs. x ∷ xs) (each read (texts (drop (i + 1) words)))) (read (get_or words i d).now)
  here i lt =
      let parts : drop i words ≡ get_or words i d ∷ drop (i + 1) words = rw add-one (drop-cons words i d lt) in
      ap (λ ws. each read (texts ws)) parts

  -- keeps the invariant of a loop over words
  pub goes_on : (front : List A) (i : ℕ) (x : A) (total : Option (List A)) → i < length words → number (read (get_or words i d).now) ≡ Ok x
      → with_front front (each read (texts (drop i words))) ≡ total → with_front (front ++ x ∷ []) (each read (texts (drop (i + 1) words))) ≡ total
  goes_on front i x total lt e so_far =
      let one = here i lt ∙ ap (option_and_then (λ x. option_map (λ xs. x ∷ xs) (each read (texts (drop (i + 1) words))))) (is_read (read (get_or words i d).now) x e) in
      sym (regroup front x (each read (texts (drop (i + 1) words)))) ∙ ap (with_front front) (sym one) ∙ so_far

  -- answers a loop that returns at a word that cannot be read
  pub ends : (e : LineError) (front : List A) (i : ℕ) (total : Option (List A)) → i < length words → Fails e (number (read (get_or words i d).now))
      → with_front front (each read (texts (drop i words))) ≡ total → Fails e (number total)
  ends error.Memory front i total lt h so_far = tt
  ends (error.Refused f) front i total lt h so_far =
      let n = not_read (read (get_or words i d).now) f h in
      let one = here i lt ∙ ap (option_and_then (λ x. option_map (λ xs. x ∷ xs) (each read (texts (drop (i + 1) words))))) n.0 in
      ap number (sym so_far ∙ ap (with_front front) one) ∙ ap (λ v. Err v) (sym n.1)

  -- answers a loop that has read all words
  pub is_done : (front : List A) (i : ℕ) (total : Option (List A)) → length words ≤ i → with_front front (each read (texts (drop i words))) ≡ total → number total ≡ Ok front
  is_done front i total le so_far =
      let none : drop i words ≡ [] = drop_all i words le in
      ap number (sym so_far ∙ ap (λ ws. with_front front (each read (texts ws))) none) ∙ ap (λ xs. Ok xs) (append-nil front)
