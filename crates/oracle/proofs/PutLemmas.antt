-- Steps of the loops that go over a bag and write entries.
use Rattle.std.proofs.Common.{◌≡◌, ℕ, ◌+◌, ◌<◌, Bool, true, false, cond, List, [], ◌∷◌, ◌++◌, map, take, length, get_or, IsTrue, ap, sym, ◌∙◌, append_assoc, w64, FitsSigned}
use Rattle.std.specs.Prelude.{pos, neg_ℤ}
use Rattle.std.specs.List.{filter, flat_map, list_all, Any}
use Rattle.std.proofs.lemmas.List.{take_more, map_more, append-nil, get_or_default, flat_map_more}
use Rattle.std.proofs.lemmas.List.Elements.{filter_more}
use Rattle.std.proofs.lemmas.List.Sums.{AllPass-from_list_all}
use Rattle.update.specs.Bags.{Entry}
use Rattle.update.specs.Bags.{entry_of}

-- any entry, as the default of an index
abbrev pub no_entry : Entry
no_entry = entry_of [] (pos 0)

module _ {X : Type 0} where
  -- if all elements pass a test, so does the one at an index
  pub passes_at : (p : X → Bool) (xs : List X) (i : ℕ) (d : X) → i < length xs → IsTrue (list_all p xs) → IsTrue (p (get_or xs i d))
  passes_at p xs i d l h = AllPass-from_list_all p xs h i d l

  -- the step that copies an element
  pub put_next : (old mid new xs : List X) (i : ℕ) (d : X) → i < length xs → mid ≡ old ++ take i xs → new ≡ mid ++ get_or xs i d ∷ [] → new ≡ old ++ take (i + 1) xs
  put_next old mid new xs i d l m n =
      n ∙ (ap (λ ys. ys ++ get_or xs i d ∷ []) m ∙ (append_assoc old (take i xs) (get_or xs i d ∷ []) ∙ ap (λ ys. old ++ ys) (sym (take_more xs i d l))))

  -- the step that appends the image of an element
  pub put_more : {Y : Type 0} (f : X → Y) (old mid new : List Y) (xs : List X) (i : ℕ) (d : X) → i < length xs → mid ≡ old ++ map f (take i xs) → new ≡ mid ++ f (get_or xs i d) ∷ [] → new ≡ old ++ map f (take (i + 1) xs)
  put_more f old mid new xs i d l m n =
      n ∙ (ap (λ ys. ys ++ f (get_or xs i d) ∷ []) m ∙ (append_assoc old (map f (take i xs)) (f (get_or xs i d) ∷ []) ∙ ap (λ ys. old ++ ys) (sym (map_more f xs i d l))))

  -- the step over an element that passes: it is copied
  pub put_kept : (p : X → Bool) (old mid new xs : List X) (i : ℕ) (d : X) → i < length xs → p (get_or xs i d) ≡ true → mid ≡ old ++ filter p (take i xs) → new ≡ mid ++ get_or xs i d ∷ [] → new ≡ old ++ filter p (take (i + 1) xs)
  put_kept p old mid new xs i d l h m n =
      let more : filter p (take (i + 1) xs) ≡ filter p (take i xs) ++ cond (p (get_or xs i d)) (get_or xs i d ∷ []) [] = filter_more p xs i d l in
      n ∙ (ap (λ ys. ys ++ get_or xs i d ∷ []) m ∙ (append_assoc old (filter p (take i xs)) (get_or xs i d ∷ []) ∙ ap (λ ys. old ++ ys) (sym (more ∙ ap (λ b. filter p (take i xs) ++ cond b (get_or xs i d ∷ []) []) h))))

  -- the step over an element that does not pass: nothing is appended
  pub put_left : (p : X → Bool) (old mid xs : List X) (i : ℕ) (d : X) → i < length xs → p (get_or xs i d) ≡ false → mid ≡ old ++ filter p (take i xs) → mid ≡ old ++ filter p (take (i + 1) xs)
  put_left p old mid xs i d l h m =
      let more : filter p (take (i + 1) xs) ≡ filter p (take i xs) ++ cond (p (get_or xs i d)) (get_or xs i d ∷ []) [] = filter_more p xs i d l in
      m ∙ ap (λ ys. old ++ ys) (sym (more ∙ (ap (λ b. filter p (take i xs) ++ cond b (get_or xs i d ∷ []) []) h ∙ append-nil (filter p (take i xs)))))

-- the entry at this index has a count without an opposite, so the list has one
pub large_at : (es : List Entry) (i : ℕ) → i < length es → (FitsSigned w64 (neg_ℤ (get_or es i no_entry).count) → ⊥) → Any (λ e. FitsSigned w64 (neg_ℤ e.count) → ⊥) es
large_at es i l large = (i, get_or es i no_entry, l, get_or_default es i (get_or es i no_entry) no_entry l, large)

-- the step that appends a list for an element
pub put_flat : {X Y : Type 0} (f : X → List Y) (old mid new : List Y) (xs : List X) (i : ℕ) (d : X) → i < length xs → mid ≡ old ++ flat_map f (take i xs) → new ≡ mid ++ f (get_or xs i d) → new ≡ old ++ flat_map f (take (i + 1) xs)
put_flat f old mid new xs i d l m n =
    n ∙ (ap (λ ys. ys ++ f (get_or xs i d)) m ∙ (flat_map_more f old (take i xs) (get_or xs i d) ∙ ap (λ ys. old ++ flat_map f ys) (sym (take_more xs i d l))))
