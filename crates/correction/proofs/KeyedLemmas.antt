-- Lists in which each row begins with one key.
use Rattle.std.proofs.Common.{◌≡◌, ◌≢◌, ℕ, ◌<◌, Bool, true, false, cond, List, [], ◌∷◌, ◌++◌, ℤ, length, map, get_or, IsTrue, refl, ap, sym, ◌∙◌}
use Rattle.std.specs.Prelude.{pos}
use Rattle.std.specs.List.{filter, list_all, AllByRecursion}
use Rattle.std.proofs.lemmas.Bool.{and_parts, and_from, true≢false}
use Rattle.std.proofs.lemmas.List.Elements.{All-from_recursion}
use Rattle.std.proofs.lemmas.List.Folds.{list_all-append}
use Rattle.std.proofs.lemmas.List.Sums.{list_all-from_AllPass}
use Rattle.update.specs.Bags.{Entry, Alike, IsBag, count_of, same_row}
use Rattle.update.specs.Updates.{entry, as_of}
use Rattle.update.specs.declared.change.Update.{Update}
use Rattle.update.proofs.BagLemmas.{count_absent, count_at}
use Rattle.plan.specs.Reductions.{has_key}
use Rattle.plan.proofs.CountLemmas.{row_same}
use Rattle.joined_times.specs.Joined.{of_key}
use Rattle.correction.specs.Corrections.{had}
use Rattle.lattice.specs.Times.{Times}

-- ---- entries

-- if all rows pass a test, a row that does not pass has count 0
pub absent_row : (p : List ℤ → Bool) (es : List Entry) (row : List ℤ) → IsTrue (list_all (λ e. p e.row) es) → p row ≡ false → count_of es row ≡ pos 0
absent_row p es row h n = count_absent es row (others es h)
  where
    others : (es : List Entry) → IsTrue (list_all (λ e. p e.row) es) → AllByRecursion (λ e. same_row e.row row ≡ false) es
    others [] h = tt
    others (e ∷ es) h =
        let parts = and_parts (p e.row) (list_all (λ e. p e.row) es) h in
        (step (same_row e.row row) refl parts.0, others es parts.1)
      where
        step : (b : Bool) → same_row e.row row ≡ b → IsTrue (p e.row) → same_row e.row row ≡ false
        step false i t = i
        step true i t = absurd (true≢false (sym t ∙ (ap p (row_same e.row row i) ∙ n)))

-- if all rows of a list pass, so do all rows of a bag with the same counts
pub rows_pass : (p : List ℤ → Bool) (bag es : List Entry) → IsBag bag → Alike bag es → IsTrue (list_all (λ e. p e.row) es) → IsTrue (list_all (λ e. p e.row) bag)
rows_pass p bag es is alike h = list_all-from_AllPass (λ (e : Entry). p e.row) bag (λ i d l. step i d l (p (get_or bag i d).row) refl)
  where
    step : (i : ℕ) (d : Entry) → i < length bag → (b : Bool) → p (get_or bag i d).row ≡ b → p (get_or bag i d).row ≡ true
    step i d l true e = e
    step i d l false e = absurd (All-from_recursion (λ (e : Entry). e.count ≢ pos 0) bag is.nonzero i d l
        (sym (count_at bag i d l is.ascending) ∙ (alike (get_or bag i d).row ∙ absent_row p es (get_or bag i d).row h e)))

module _ {T : Type 0} (times : Times T) (k : ℕ) (key : List ℤ) where
  -- the sum of a key's updates has only rows of the key
  pub own_sum : (t : T) (us : List (Update T)) → IsTrue (list_all (of_key k key) us) → IsTrue (list_all (has_key k key) (as_of times t us))
  own_sum t [] h = refl
  own_sum t (u ∷ us) h =
      let p = and_parts (of_key k key u) (list_all (of_key k key) us) h in
      step (times.below u.time t) p.0 (own_sum t us p.1)
    where
      step : (b : Bool) → of_key k key u ≡ true → IsTrue (list_all (has_key k key) (as_of times t us)) → IsTrue (list_all (has_key k key) (map entry (cond b (u ∷ filter (λ v. times.below v.time t) us) (filter (λ v. times.below v.time t) us))))
      step true e ih = and_from (has_key k key (entry u)) (list_all (has_key k key) (as_of times t us)) e ih
      step false e ih = ih

  all_kept : {X : Type 0} (p : X → Bool) (xs : List X) → IsTrue (list_all p xs) → filter p xs ≡ xs
  all_kept p [] h = refl
  all_kept p (x ∷ xs) h = let q = and_parts (p x) (list_all p xs) h in rw q.0 (ap (λ z. x ∷ z) (all_kept p xs q.1))

  pub had_own : (t : T) (us : List (Update T)) → IsTrue (list_all (of_key k key) us) → had times k key t us ≡ as_of times t us
  had_own t us h = all_kept (has_key k key) (as_of times t us) (own_sum t us h)

module _ {T : Type 0} (k : ℕ) (key : List ℤ) where
  pub own_kept : (us : List (Update T)) → IsTrue (list_all (of_key k key) us) → filter (of_key k key) us ≡ us
  own_kept [] h = refl
  own_kept (u ∷ us) h = let q = and_parts (of_key k key u) (list_all (of_key k key) us) h in rw q.0 (ap (λ z. u ∷ z) (own_kept us q.1))

  pub both_own : (us vs : List (Update T)) → IsTrue (list_all (of_key k key) us) → IsTrue (list_all (of_key k key) vs) → IsTrue (list_all (of_key k key) (us ++ vs))
  both_own us vs a b = list_all-append (of_key k key) us vs ∙ and_from (list_all (of_key k key) us) (list_all (of_key k key) vs) a b
