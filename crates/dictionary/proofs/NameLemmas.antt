-- The number of a name, and the names after a new one.
use Rattle.std.proofs.Common.{◌≡◌, ℕ, ◌+◌, ◌≤◌, Bool, true, false, not, ◌||◌, ◌++◌, cond, ltb, ltb-false, sym, string_bytes, Global, String, List, [], ◌∷◌, length, map, Some, None, refl, ap, ◌∙◌, arith, get_or}
use Rattle.std.specs.Option.{is_some}
use Rattle.std.specs.List.{position, position_or_len, list_any, slice_get}
use Rattle.std.specs.Str.{bytes_eq}
use Rattle.std.specs.String.{string_eq}
use Rattle.std.proofs.lemmas.List.{length-map, map_push}
use Rattle.std.proofs.lemmas.List.Quantifiers.{position-Some}
use Rattle.std.proofs.lemmas.Option.{slice_get-get_or}
use Rattle.std.proofs.lemmas.Slice.Eq.{bytes_eq-Decides}
use Rattle.indexmap.specs.IndexSet.{insert_key}
use Rattle.dictionary.specs.Names.{number_in, with_name}

position_or_len-map : {A B : Type 0} (f : A → B) (p : B → Bool) (xs : List A) → position_or_len p (map f xs) ≡ position_or_len (λ x. p (f x)) xs
position_or_len-map f p [] = refl
position_or_len-map f p (x ∷ xs) = ap (λ (n : ℕ). cond (not (p (f x))) (1 + n) 0) (position_or_len-map f p xs)

-- carries a search among strings over to one among their bytes
pub position-map : {A B : Type 0} (f : A → B) (p : B → Bool) (xs : List A) → position p (map f xs) ≡ position (λ x. p (f x)) xs
position-map f p xs = ap (λ (n : ℕ). cond (ltb n (length (map f xs))) (Some n) None) (position_or_len-map f p xs) ∙ ap (λ (n : ℕ). cond (ltb (position_or_len (λ x. p (f x)) xs) n) (Some (position_or_len (λ x. p (f x)) xs)) None) (length-map xs f)

none_any : {A : Type 0} (p : A → Bool) (xs : List A) → length xs ≤ position_or_len p xs → list_any p xs ≡ false
none_any p [] h = refl
none_any p (x ∷ xs) h = elim (p x) as (λ b. length (x ∷ xs) ≤ cond (not b) (1 + position_or_len p xs) 0 → (b || list_any p xs) ≡ false) [ true ↦ (λ k. absurd (omega arith)) | false ↦ (λ k. none_any p xs (omega arith)) ] h

none_is : (b : Bool) (n : ℕ) → cond b (Some n) None ≡ None → b ≡ false
none_is true n e = absurd cc
none_is false n e = refl

lacking : {A : Type 0} (p : A → Bool) (xs : List A) → position p xs ≡ None → list_any p xs ≡ false
lacking p xs e = none_any p xs (ltb-false _ _ (none_is (ltb (position_or_len p xs) (length xs)) (position_or_len p xs) e))

-- a free name is appended to the names
pub added_name : (keys : List (String Global)) (name : String Global) → position (bytes_eq (string_bytes name)) (map string_bytes keys) ≡ None → map string_bytes (insert_key string_eq keys name) ≡ map string_bytes keys ++ string_bytes name ∷ []
added_name keys name e =
    let none : list_any (string_eq name) keys ≡ false = lacking (string_eq name) keys (sym (position-map string_bytes (bytes_eq (string_bytes name)) keys) ∙ e) in
    ap (λ b. map string_bytes (cond b keys (keys ++ name ∷ []))) none ∙ map_push string_bytes keys name

-- the number of a name stands for it
pub numbered : (names : List (List ℕ)) (name : List ℕ) (n : ℕ) → number_in names name ≡ Some n → slice_get names n ≡ Some name
numbered names name n e =
    let at = position-Some (bytes_eq name) names n [] e in
    slice_get-get_or names n [] at.0 ∙ ap Some (sym ((bytes_eq-Decides name (get_or names n [])).0 at.1))

-- the next number stands for the name that gets it
pub last_number : (names : List (List ℕ)) (name : List ℕ) → slice_get (names ++ name ∷ []) (length names) ≡ Some name
last_number [] name = refl
last_number (x ∷ names) name = last_number names name

-- a name that has a number is not added
pub known_name : (names : List (List ℕ)) (name : List ℕ) (n : ℕ) → number_in names name ≡ Some n → with_name names name ≡ names
known_name names name n e = ap (λ o. cond (is_some o) names (names ++ name ∷ [])) e

-- a name that has no number is added
pub new_name : (names : List (List ℕ)) (name : List ℕ) → number_in names name ≡ None → with_name names name ≡ names ++ name ∷ []
new_name names name e = ap (λ o. cond (is_some o) names (names ++ name ∷ [])) e
