-- A tally with the updates that are near a time: what it comes to one update after the other, and
-- in the bag of all.
use Rattle.std.proofs.Common.{◌≡◌, ℕ, zero, suc, add-one, ◌+◌, ◌<◌, List, [], ◌∷◌, ◌++◌, ℤ, take, length, get_or, IsTrue, refl, sym, ap, ◌∙◌, append_assoc}
use Rattle.std.specs.Prelude.{◌+ℤ◌, slice_get, IsSomeAnd}
use Rattle.std.specs.List.{list_all}
use Rattle.std.proofs.lemmas.Bool.{and_from}
use Rattle.std.proofs.lemmas.List.{take_more}
use Rattle.std.proofs.lemmas.List.Folds.{list_all-append}
use Rattle.update.specs.Bags.{Entry, Alike, IsBag, count_of, same_row, entry_of}
use Rattle.update.specs.Updates.{as_of}
use Rattle.update.specs.declared.change.Update.{Update}
use Rattle.plan.specs.Reductions.{has_key}
use Rattle.plan.proofs.CountLemmas.{count_of-append}
use Rattle.joined_times.specs.Joined.{of_key}
use Rattle.correction.proofs.JoinedLemmas.{as_of-append}
use Rattle.correction.proofs.KeyedLemmas.{own_sum, rows_pass}
use Rattle.lattice.specs.Times.{Times}

-- one more entry is appended
pub entry_more : (old mid new es : List Entry) (i : ℕ) (row : List ℤ) (count : ℤ) → IsSomeAnd (slice_get es i) (λ e. row ≡ e.row) → IsSomeAnd (slice_get es i) (λ e. count ≡ e.count)
    → mid ≡ old ++ take i es → new ≡ mid ++ entry_of row count ∷ [] → new ≡ old ++ take (i + 1) es
entry_more old mid new es i row count a b m n =
    n
    ∙ (ap (λ xs. xs ++ entry_of row count ∷ []) m
    ∙ (append_assoc old (take i es) (entry_of row count ∷ []) ∙ ap (λ xs. old ++ xs) (sym (ap (λ k. take k es) (add-one i) ∙ go es i a b))))
  where
    go : (es : List Entry) (i : ℕ) → IsSomeAnd (slice_get es i) (λ e. row ≡ e.row) → IsSomeAnd (slice_get es i) (λ e. count ≡ e.count) → take (suc i) es ≡ take i es ++ entry_of row count ∷ []
    go [] i a b = absurd a
    go (e ∷ es) zero a b = rw (a, b) refl
    go (e ∷ es) (suc i) a b = ap (λ z. e ∷ z) (go es i a b)

module _ {T : Type 0} (times : Times T) where
  -- one more update is added
  pub update_more : (t : T) (old mid new : List Entry) (near : List (Update T)) (i : ℕ) (u : Update T) → i < length near → u ≡ get_or near i u
      → Alike mid (old ++ as_of times t (take i near)) → Alike new (mid ++ as_of times t (u ∷ [])) → Alike new (old ++ as_of times t (take (i + 1) near))
  update_more t old mid new near i u l e m n row =
      let before = as_of times t (take i near) in
      let one = as_of times t (u ∷ []) in
      let whole : as_of times t (take (i + 1) near) ≡ before ++ one =
      ap (as_of times t) (take_more near i u l) ∙ (as_of-append times t (take i near) (get_or near i u ∷ []) ∙ ap (λ v. before ++ as_of times t (v ∷ [])) (sym e)) in
      n row
      ∙ (count_of-append mid one row
      ∙ (ap (λ z. z +ℤ count_of one row) (m row)
      ∙ (sym (count_of-append (old ++ before) one row)
      ∙ ap (λ es. count_of es row) (append_assoc old before one ∙ ap (λ es. old ++ es) (sym whole)))))

  -- the rows of a tally of a key and of updates of the key are those of the key, and so are those
  -- of their bag
  pub whole_keyed : (k : ℕ) (key : List ℤ) (t : T) (base : List Entry) (near : List (Update T)) (bag : List Entry) → IsBag bag → Alike bag (base ++ as_of times t near)
      → IsTrue (list_all (has_key k key) base) → IsTrue (list_all (of_key k key) near) → IsTrue (list_all (has_key k key) bag)
  whole_keyed k key t base near bag is alike a b =
      rows_pass (λ row. same_row (take k row) key) bag (base ++ as_of times t near) is alike
      (list_all-append (has_key k key) base (as_of times t near)
      ∙ and_from (list_all (has_key k key) base) (list_all (has_key k key) (as_of times t near)) a (own_sum times k key t near b))
