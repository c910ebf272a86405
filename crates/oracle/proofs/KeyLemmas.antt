-- Rows in order have keys in order, so the rows of a key are neighbours.
use Rattle.std.proofs.Common.{◌≡◌, ℕ, zero, suc, ◌+◌, ◌<◌, ◌≤◌, Bool, true, false, List, [], ◌∷◌, ℤ, take, length, get_or, ◌⊎◌, ⊎_elim, inl, inr, refl, ap, sym, ◌∙◌, eq-or-lt_of_le, arith}
use Rattle.std.specs.Cmp.{IsTotalOrder}
use Rattle.std.specs.Cmp.Lexicographic.{slice_cmp, lists_ties, lists_total}
use Rattle.std.specs.List.{AllWithin}
use Rattle.std.specs.List.Sorted.{IsStrictlySortedBy}
use Rattle.std.specs.Ordering.{int_cmp, is_eq, ordering_then, ordering_reverse}
use Rattle.std.specs.declared.cmp.Ordering.{Ordering}
use Rattle.std.specs.declared.cmp.Ordering.TheVariants.{Less, Equal, Greater}
use Rattle.std.proofs.lemmas.Bool.{true≢false}
use Rattle.std.proofs.lemmas.Cmp.{int_cmp_total}
use Rattle.std.proofs.lemmas.List.Elements.{All-from_recursion}
use Rattle.update.specs.Bags.{Entry, IsBag}
use Rattle.plan.proofs.CountLemmas.{row_itself}
use Rattle.oracle.specs.Keys.{precedes, is_before_key}

abbrev pub by_columns : List ℤ → List ℤ → Ordering
by_columns r s = slice_cmp int_cmp r s

-- the order of rows is total
columns_total : IsTotalOrder by_columns
columns_total = lists_total int_cmp_total

-- a row compares equal to itself
pub columns_refl : (r : List ℤ) → by_columns r r ≡ Equal
columns_refl r = step (by_columns r r) (sym (lists_ties int_cmp (λ x y. refl) r r) ∙ row_itself r)
  where
    step : (o : Ordering) → is_eq o ≡ true → o ≡ Equal
    step Less h = absurd (true≢false (sym h))
    step Equal h = refl
    step Greater h = absurd (true≢false (sym h))

-- if two rows are in order, their first columns are in order or equal
key_order : (k : ℕ) (r s : List ℤ) → by_columns r s ≡ Less → (by_columns (take k r) (take k s) ≡ Less) ⊎ (by_columns (take k r) (take k s) ≡ Equal)
key_order zero r s h = inr refl
key_order (suc k) [] [] h = inr refl
key_order (suc k) [] (y ∷ s) h = inl refl
key_order (suc k) (x ∷ r) [] h = inl h
key_order (suc k) (x ∷ r) (y ∷ s) h = step (int_cmp x y) h (key_order k r s)
  where
    step : (o : Ordering) → ordering_then o (by_columns r s) ≡ Less
        → (by_columns r s ≡ Less → (by_columns (take k r) (take k s) ≡ Less) ⊎ (by_columns (take k r) (take k s) ≡ Equal))
        → (ordering_then o (by_columns (take k r) (take k s)) ≡ Less) ⊎ (ordering_then o (by_columns (take k r) (take k s)) ≡ Equal)
    step Less h rest = inl refl
    step Equal h rest = rest h
    step Greater h rest = inl h

-- if a comes no later than b and b precedes the key, so does a
precedes_down : (equal : Bool) (a b key : List ℤ) → (by_columns a b ≡ Less) ⊎ (by_columns a b ≡ Equal) → precedes equal (by_columns b key) ≡ true → precedes equal (by_columns a key) ≡ true
precedes_down equal a b key h p =
    ⊎_elim
    (λ l. step l (by_columns b key) refl p)
    (λ e. ap (precedes equal) (columns_total.congr a b key e) ∙ p)
    h
  where
    step : by_columns a b ≡ Less → (o : Ordering) → by_columns b key ≡ o → precedes equal o ≡ true → precedes equal (by_columns a key) ≡ true
    step l Less e p = ap (precedes equal) (columns_total.trans a b key l e)
    step l Equal e p =
        let less : by_columns a key ≡ Less = columns_total.antisymm a key ∙ (ap ordering_reverse (sym (columns_total.congr b key a e)) ∙ (sym (columns_total.antisymm a b) ∙ l)) in
        ap (precedes equal) less
    step l Greater e p = absurd (true≢false (sym p))

-- in a bag, an earlier index has a lesser row
in_order : (es : List Entry) → IsStrictlySortedBy (λ a b. by_columns a.row b.row) es → (i j : ℕ) (d : Entry) → i < j → j < length es → by_columns (get_or es i d).row (get_or es j d).row ≡ Less
unfolding IsStrictlySortedBy
in_order [] s i j d l m = absurd (omega (arith, m))
in_order (e ∷ es) s i zero d l m = absurd (omega (arith, l))
in_order (e ∷ es) s zero (suc j) d l m = All-from_recursion (λ y. by_columns e.row y.row ≡ Less) es s.0 j d (omega (arith, m))
in_order (e ∷ es) s (suc i) (suc j) d l m = in_order es s.1 i j d (omega (arith, l)) (omega (arith, m))

module _ (equal : Bool) (key : List ℤ) (es : List Entry) (bag : IsBag es) where
  -- all entries up to one before the key are before the key
  before_down : (i j : ℕ) (d : Entry) → i ≤ j → j < length es → is_before_key equal key (get_or es j d) ≡ true → is_before_key equal key (get_or es i d) ≡ true
  before_down i j d l m h =
      ⊎_elim
      (λ e. ap (λ n. is_before_key equal key (get_or es n d)) e ∙ h)
      (λ k. precedes_down equal (take (length key) (get_or es i d).row) (take (length key) (get_or es j d).row) key (key_order (length key) (get_or es i d).row (get_or es j d).row (in_order es bag.ascending i j d k m)) h)
      (eq-or-lt_of_le l)

  -- the test succeeds at `middle`, so all entries up to it are before the key
  pub before_up_to : (middle : ℕ) → middle < length es → ((d : Entry) → is_before_key equal key (get_or es middle d) ≡ true) → AllWithin (λ e. is_before_key equal key e ≡ true) es 0 (middle + 1)
  before_up_to middle m h i d l k = before_down i middle d (omega (arith, k)) m (h d)

  -- the test fails at `middle`, so no entry from it on is before the key
  pub behind_from : (middle : ℕ) → middle < length es → ((d : Entry) → is_before_key equal key (get_or es middle d) ≡ false) → AllWithin (λ e. is_before_key equal key e ≡ false) es middle (length es)
  behind_from middle m h i d l k = step (is_before_key equal key (get_or es i d)) refl
    where
      step : (b : Bool) → is_before_key equal key (get_or es i d) ≡ b → is_before_key equal key (get_or es i d) ≡ false
      step false e = e
      step true e = absurd (true≢false (sym (before_down middle i d l k e) ∙ h d))
