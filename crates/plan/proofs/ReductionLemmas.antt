-- A reduction by key: in the answers for all keys together, a row has the count that it has in the
-- answer for its own key.
use Rattle.std.proofs.Common.{◌≡◌, ℕ, ◌<◌, ◌≤◌, Bool, true, false, cond, not, ◌||◌, List, [], ◌∷◌, map, take, take_all, length, refl, ap, sym, ◌∙◌, inl, inr, ⊎_elim, arith}
use Rattle.std.specs.Prelude.{ℤ, pos, ◌+ℤ◌, nat_le}
use Rattle.std.specs.List.{filter, list_any}
use Rattle.std.proofs.lemmas.Int.{ints}
use Rattle.std.proofs.lemmas.Bool.{or_parts, or_left, or_right, true≢false, false_from_ne_true, leb-true, leb-false, le-leb}
use Rattle.std.proofs.lemmas.List.{length-take-le}
use Rattle.antichain.proofs.Lists.{Among, filter_has}
use Rattle.update.specs.Bags.{Entry, count_of, same_row, total_by}
use Rattle.update.proofs.SumLemmas.{total_by-same, total_by-zero, total_by-filter}
use Rattle.plan.specs.Reductions.{IsReducer, each_once, has_key}
use Rattle.plan.specs.Operators.{keys, reduction_output}
use Rattle.plan.proofs.CountLemmas.{row_same, row_itself, total_by-flat_map}

-- ---- lists

module _ {X : Type 0} (test : X → Bool) where
  -- if `list_any` holds, then some element passes the test
  pub any_has : (xs : List X) → list_any test xs ≡ true → (x : X) × Among x xs × (test x ≡ true)
  any_has [] h = absurd (true≢false (sym h))
  any_has (x ∷ xs) h =
      elim (test x) as (λ b. test x ≡ b → (b || list_any test xs) ≡ true → (y : X) × Among y (x ∷ xs) × (test y ≡ true)) [
        | true ↦ λ e k. (x, inl refl, e)
        | false ↦ λ e k. let r = any_has xs k in (r.0, inr r.1, r.2)
      ] refl h

  -- if an element passes the test, then `list_any` holds
  pub any_at : (xs : List X) (x : X) → Among x xs → test x ≡ true → list_any test xs ≡ true
  any_at [] x m h = absurd m
  any_at (y ∷ xs) x m h =
      ⊎_elim
      (λ e. or_left (test y) (list_any test xs) (ap test e ∙ h))
      (λ n. or_right (test y) (list_any test xs) (any_at xs x n h))
      m

  -- if no element passes the test, then `list_any` does not hold
  pub any_none : (xs : List X) → ((x : X) → Among x xs → test x ≡ false) → list_any test xs ≡ false
  any_none [] h = refl
  any_none (x ∷ xs) h = rw (h x (inl refl)) (any_none xs (λ y m. h y (inr m)))

-- comparing rows is symmetric: rows that differ one way round differ the other way round
pub row_differs : (row other : List ℤ) → same_row row other ≡ false → same_row other row ≡ false
row_differs row other h = false_from_ne_true (same_row other row) (λ e. true≢false (sym (ap (same_row row) (row_same other row e) ∙ row_itself row) ∙ h))

-- ---- each row once

-- listing each row once adds no rows
pub each_once_among : (rows : List (List ℤ)) (row : List ℤ) → Among row (each_once rows) → Among row rows
each_once_among [] row m = absurd m
each_once_among (first ∷ rows) row m =
    ⊎_elim
    (λ e. inl e)
    (λ n. inr (each_once_among rows row (filter_has (λ other. not (same_row other first)) (each_once rows) row n).0))
    m

-- if only one row has a value other than 0, then the total over rows without repetitions is that
-- row's value, or 0 if it is not among them
pub total_by-once : (f : List ℤ → ℤ) (key : List ℤ) (rows : List (List ℤ)) → ((row : List ℤ) → Among row rows → same_row row key ≡ false → f row ≡ pos 0) → total_by f (each_once rows) ≡ cond (list_any (λ row. same_row row key) rows) (f key) (pos 0)
total_by-once f key [] z = refl
total_by-once f key (first ∷ rows) z =
    rw (total_by-filter f (λ other. not (same_row other first)) (each_once rows)) (step (same_row first key) refl (total_by-once f key rows (λ row m. z row (inr m))))
  where
    no_value : same_row first key ≡ true → (row : List ℤ) → Among row (each_once rows) → (b : Bool) → same_row row first ≡ b → cond (not b) (f row) (pos 0) ≡ pos 0
    no_value h row m true e = refl
    no_value h row m false e = z row (inr (each_once_among rows row m)) (ap (same_row row) (sym (row_same first key h)) ∙ e)

    own_value : f first ≡ pos 0 → (row : List ℤ) (b : Bool) → same_row row first ≡ b → cond (not b) (f row) (pos 0) ≡ f row
    own_value n row true e = sym (ap f (row_same row first e) ∙ n)
    own_value n row false e = refl

    step : (b : Bool) → same_row first key ≡ b → total_by f (each_once rows) ≡ cond (list_any (λ row. same_row row key) rows) (f key) (pos 0)
        → f first +ℤ total_by (λ row. cond (not (same_row row first)) (f row) (pos 0)) (each_once rows) ≡ cond (b || list_any (λ row. same_row row key) rows) (f key) (pos 0)
    step true h ih =
        let rest = total_by-zero (λ row. cond (not (same_row row first)) (f row) (pos 0)) (each_once rows) (λ row m. no_value h row m (same_row row first) refl) in
        let own : f first ≡ f key = ap f (row_same first key h) in
        omega (arith, ints)
    step false h ih =
        let none : f first ≡ pos 0 = z first (inl refl) h in
        let rest = total_by-same (λ row. cond (not (same_row row first)) (f row) (pos 0)) f (each_once rows) (λ row. own_value none row (same_row row first) refl) ∙ ih in
        omega (arith, ints)

-- ---- keys

-- the keys of the rows, with repetitions
abbrev key_rows : ℕ → List Entry → List (List ℤ)
key_rows k entries = map (λ e. take k e.row) (filter (λ e. nat_le k (length e.row)) entries)

module _ (k : ℕ) where
  key_length : (entries : List Entry) (key : List ℤ) → Among key (key_rows k entries) → length key ≡ k
  key_length [] key m = absurd m
  key_length (e ∷ entries) key m =
      elim (nat_le k (length e.row)) as (λ b. nat_le k (length e.row) ≡ b → Among key (map (λ e. take k e.row) (cond b (e ∷ filter (λ e. nat_le k (length e.row)) entries) (filter (λ e. nat_le k (length e.row)) entries))) → length key ≡ k) [
        | true ↦ λ h n. ⊎_elim (λ s. ap length (sym s) ∙ length-take-le k e.row (leb-true k (length e.row) h)) (λ r. key_length entries key r) n
        | false ↦ λ h n. key_length entries key n
      ] refl m

  -- a key that no row has has no entries
  no_entries : (key : List ℤ) → length key ≡ k → (entries : List Entry) → list_any (λ row. same_row row key) (key_rows k entries) ≡ false → filter (has_key k key) entries ≡ []
  no_entries key l [] h = refl
  no_entries key l (e ∷ entries) h = step (nat_le k (length e.row)) refl h (λ g. no_entries key l entries g)
    where
      too_short : length e.row < k → same_row (take k e.row) key ≡ true → ⊥
      too_short s t =
          let whole : take k e.row ≡ e.row = take_all k e.row (omega (arith, s)) in
          let n : length e.row ≡ k = ap length (sym whole ∙ row_same (take k e.row) key t) ∙ l in
          omega (arith, s, n)

      step : (b : Bool) → nat_le k (length e.row) ≡ b
          → list_any (λ row. same_row row key) (map (λ e. take k e.row) (cond b (e ∷ filter (λ e. nat_le k (length e.row)) entries) (filter (λ e. nat_le k (length e.row)) entries))) ≡ false
          → (list_any (λ row. same_row row key) (key_rows k entries) ≡ false → filter (has_key k key) entries ≡ [])
          → cond (same_row (take k e.row) key) (e ∷ filter (has_key k key) entries) (filter (has_key k key) entries) ≡ []
      step true i g ih = let parts = or_parts (same_row (take k e.row) key) (list_any (λ row. same_row row key) (key_rows k entries)) g in rw (parts.0) (ih parts.1)
      step false i g ih = rw (false_from_ne_true (same_row (take k e.row) key) (too_short (leb-false k (length e.row) i))) (ih g)

  -- a row with a key of k columns has the count that it has in the answer for its key; a shorter
  -- row is in no answer
  pub by_key_at : (reduce : List ℤ → List Entry → List Entry) → IsReducer k reduce → (entries : List Entry) (row : List ℤ)
      → count_of (reduction_output k reduce entries) row ≡ cond (nat_le k (length row)) (count_of (reduce (take k row) (filter (has_key k (take k row)) entries)) row) (pos 0)
  by_key_at reduce q entries row =
      total_by-flat_map (λ e. cond (same_row e.row row) e.count (pos 0)) (λ key. reduce key (filter (has_key k key) entries)) (keys k entries)
      ∙ (total_by-once answer (take k row) (key_rows k entries) (λ key m d. q.keyed key row entries (key_length entries key m) (row_differs key (take k row) d))
      ∙ step (nat_le k (length row)) refl)
    where
      answer : List ℤ → ℤ
      answer key = count_of (reduce key (filter (has_key k key) entries)) row

      unmet : length row < k → (key : List ℤ) → Among key (key_rows k entries) → same_row key (take k row) ≡ true → ⊥
      unmet s key m t =
          let whole : take k row ≡ row = take_all k row (omega (arith, s)) in
          let n : length row ≡ k = ap length (sym (row_same key (take k row) t ∙ whole)) ∙ key_length entries key m in
          omega (arith, s, n)

      found : length (take k row) ≡ k → (b : Bool) → list_any (λ key. same_row key (take k row)) (key_rows k entries) ≡ b → cond b (answer (take k row)) (pos 0) ≡ answer (take k row)
      found l true h = refl
      found l false h = sym (ap (λ es. count_of (reduce (take k row) es) row) (no_entries (take k row) l entries h) ∙ q.nothing (take k row) row)

      step : (b : Bool) → nat_le k (length row) ≡ b → cond (list_any (λ key. same_row key (take k row)) (key_rows k entries)) (answer (take k row)) (pos 0) ≡ cond b (answer (take k row)) (pos 0)
      step true h = found (length-take-le k row (leb-true k (length row) h)) (list_any (λ key. same_row key (take k row)) (key_rows k entries)) refl
      step false h = ap (λ b. cond b (answer (take k row)) (pos 0)) (any_none (λ key. same_row key (take k row)) (key_rows k entries) (λ key m. false_from_ne_true (same_row key (take k row)) (unmet (leb-false k (length row) h) key m)))

-- for a row with a key of k columns, only the rows of that key matter
pub by_key : (k : ℕ) (reduce : List ℤ → List Entry → List Entry) → IsReducer k reduce → (entries : List Entry) (row : List ℤ) → k ≤ length row
    → count_of (reduction_output k reduce entries) row ≡ count_of (reduce (take k row) (filter (has_key k (take k row)) entries)) row
by_key k reduce q entries row h = by_key_at k reduce q entries row ∙ ap (λ b. cond b (count_of (reduce (take k row) (filter (has_key k (take k row)) entries)) row) (pos 0)) (le-leb k (length row) h)
