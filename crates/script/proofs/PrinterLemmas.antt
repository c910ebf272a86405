-- The loops that print lines one by one.
use Rattle.std.proofs.Common.{◌≡◌, ℕ, zero, suc, ◌+◌, ◌<◌, List, [], ◌∷◌, ◌++◌, take, drop, length, get_or, Option, Some, None, ℤ, slice_get, sym, ◌∙◌, ap, append_assoc, add-one, arith}
use Rattle.std.specs.Prelude.{IsSomeAnd}
use Rattle.std.proofs.lemmas.List.{append-nil}
use Rattle.std.specs.List.{flat_map}
use Rattle.update.specs.Bags.{Entry}

-- the entry at an index, by its row and its count
pub entry_here : (rows : List Entry) (i : ℕ) (row : List ℤ) (count : ℤ) → IsSomeAnd (slice_get rows i) (λ e. row ≡ e.row) → IsSomeAnd (slice_get rows i) (λ e. count ≡ e.count) → slice_get rows i ≡ Some (record { row = row; count = count })
entry_here rows i row count h k = by (slice_get rows i) h k
  where
    by : (o : Option Entry) → IsSomeAnd o (λ e. row ≡ e.row) → IsSomeAnd o (λ e. count ≡ e.count) → o ≡ Some (record { row = row; count = count })
    by None h k = absurd h
    by (Some e) h k = let rows_are = sym h in let counts_are = sym k in λ j. Some (record { row = rows_are j; count = counts_are j })

-- the element at an index
pub item_here : {X : Type 0} (xs : List X) (i : ℕ) (x : X) → i < length xs → x ≡ get_or xs i x → slice_get xs i ≡ Some x
item_here [] i x l e = absurd (omega (arith, l))
item_here (y ∷ xs) zero x l e = ap Some (sym e)
item_here (y ∷ xs) (suc i) x l e = item_here xs i x (omega (arith, l)) e

-- each element has a line, and the lines follow one another
module _ {X : Type 0} (line : X → List ℕ) where
  -- the text so far, the text of this element and that of the rest are the whole text
  text_from : (xs : List X) (i : ℕ) (x : X) → slice_get xs i ≡ Some x → flat_map line xs ≡ flat_map line (take i xs) ++ (line x ++ flat_map line (drop (suc i) xs))
  text_from [] i x h = absurd cc
  text_from (y ∷ xs) zero x h = ap (λ (z : X). line z ++ flat_map line xs) same
    where
      same : y ≡ x
      same = cc
  text_from (y ∷ xs) (suc i) x h =
      ap (λ text. line y ++ text) (text_from xs i x h)
      ∙ sym (append_assoc (line y) (flat_map line (take i xs)) (line x ++ flat_map line (drop (suc i) xs)))

  text_up_to : (xs : List X) (i : ℕ) (x : X) → slice_get xs i ≡ Some x → flat_map line (take (suc i) xs) ≡ flat_map line (take i xs) ++ line x
  text_up_to [] i x h = absurd cc
  text_up_to (y ∷ xs) zero x h = append-nil (line y) ∙ ap line same
    where
      same : y ≡ x
      same = cc
  text_up_to (y ∷ xs) (suc i) x h =
      ap (λ text. line y ++ text) (text_up_to xs i x h)
      ∙ sym (append_assoc (line y) (flat_map line (take i xs)) (line x))

  -- extends the text of a loop by one element, after a header
  pub printed_more : (head : List ℕ) (xs : List X) (i : ℕ) (x : X) → slice_get xs i ≡ Some x → (head ++ flat_map line (take i xs)) ++ line x ≡ head ++ flat_map line (take (i + 1) xs)
  printed_more head xs i x h = rw add-one (append_assoc head (flat_map line (take i xs)) (line x) ∙ ap (λ text. head ++ text) (sym (text_up_to xs i x h)))

  -- a loop that broke at an element has broken at the whole text
  pub printed_all : (head : List ℕ) (xs : List X) (i : ℕ) (x : X) → slice_get xs i ≡ Some x → ((head ++ flat_map line (take i xs)) ++ line x) ++ flat_map line (drop (suc i) xs) ≡ head ++ flat_map line xs
  printed_all head xs i x h =
      append_assoc (head ++ flat_map line (take i xs)) (line x) (flat_map line (drop (suc i) xs))
      ∙ append_assoc head (flat_map line (take i xs)) (line x ++ flat_map line (drop (suc i) xs))
      ∙ ap (λ text. head ++ text) (sym (text_from xs i x h))
