-- The rows of a key lie between two bounds, and a join pairs rows only there.
use Rattle.std.proofs.Common.{◌≡◌, ℕ, zero, suc, ◌+◌, ◌<◌, ◌≤◌, Bool, true, false, cond, List, [], ◌∷◌, ◌++◌, ℤ, map, take, length, get_or, ⊎_elim, inl, inr, refl, ap, sym, subst, ◌∙◌, append_assoc, arith}
use Rattle.std.specs.Cmp.Lexicographic.{slice_cmp, lists_ties}
use Rattle.std.specs.List.{filter, AllWithin}
use Rattle.std.specs.Ordering.{int_cmp, is_eq}
use Rattle.std.specs.declared.cmp.Ordering.{Ordering}
use Rattle.std.specs.declared.cmp.Ordering.TheVariants.{Less, Equal, Greater}
use Rattle.std.proofs.lemmas.Bool.{cases_lt, true≢false}
use Rattle.std.proofs.lemmas.List.{map-append, get_or_default}
use Rattle.std.proofs.lemmas.List.Elements.{filter_more}
use Rattle.update.specs.Bags.{Entry, IsBag, same_row}
use Rattle.update.specs.declared.refusal.Refusal.{Refusal}
use Rattle.plan.specs.Reductions.{has_key}
use Rattle.plan.proofs.CountLemmas.{row_same}
use Rattle.update.specs.Refusals.{IsMemoryOrOverflow}
use Rattle.oracle.specs.Products.{HasLargeProduct, HasLargePair}
use Rattle.oracle.specs.Keys.{precedes, is_before_key, IsKeyRange, IsKeyStart}
use Rattle.oracle.proofs.KeyLemmas.{columns_refl, behind_from}
use Rattle.oracle.proofs.PutLemmas.{no_entry}

same_row_is : (r s : List ℤ) → same_row r s ≡ is_eq (slice_cmp int_cmp r s)
same_row_is r s = lists_ties int_cmp (λ x y. refl) r s

before_differs : (o : Ordering) → precedes false o ≡ true → is_eq o ≡ false
before_differs Less h = refl
before_differs Equal h = absurd (true≢false (sym h))
before_differs Greater h = refl

behind_differs : (o : Ordering) → precedes true o ≡ false → is_eq o ≡ false
behind_differs Less h = refl
behind_differs Equal h = absurd (true≢false h)
behind_differs Greater h = refl

between_equal : (o : Ordering) → precedes false o ≡ false → precedes true o ≡ true → is_eq o ≡ true
between_equal Less h i = absurd (true≢false h)
between_equal Equal h i = refl
between_equal Greater h i = absurd (true≢false (sym i))

both_before : (o : Ordering) → precedes false o ≡ true → precedes true o ≡ true
both_before Less h = refl
both_before Equal h = refl
both_before Greater h = h

module _ {X : Type 0} (p : X → Bool) where
  none_front : (xs : List X) (n : ℕ) → n ≤ length xs → AllWithin (λ x. p x ≡ false) xs 0 n → filter p (take n xs) ≡ []
  none_front xs zero l h = refl
  none_front [] (suc n) l h = refl
  none_front (x ∷ xs) (suc n) l h =
      let first : p x ≡ false = h 0 x (omega arith) (omega arith) in
      ap (λ b. cond b (x ∷ filter p (take n xs)) (filter p (take n xs))) first
      ∙ none_front xs n (omega (arith, l)) (λ k d a b. h (suc k) d (omega arith) (omega (arith, b)))

  none_at_all : (xs : List X) → AllWithin (λ x. p x ≡ false) xs 0 (length xs) → filter p xs ≡ []
  none_at_all [] h = refl
  none_at_all (x ∷ xs) h =
      let first : p x ≡ false = h 0 x (omega arith) (omega arith) in
      ap (λ b. cond b (x ∷ filter p xs) (filter p xs)) first
      ∙ none_at_all xs (λ k d a b. h (suc k) d (omega arith) (omega (arith, b)))

  none_behind : (xs : List X) (n : ℕ) → AllWithin (λ x. p x ≡ false) xs n (length xs) → filter p (take n xs) ≡ filter p xs
  none_behind xs zero h = sym (none_at_all xs h)
  none_behind [] (suc n) h = refl
  none_behind (x ∷ xs) (suc n) h = ap (λ l. cond (p x) (x ∷ l) l) (none_behind xs n (λ k d a b. h (suc k) d (omega (arith, a)) (omega (arith, b))))

  -- the step over an element that passes: its image is appended
  pub put_kept_as : {Y : Type 0} (f : X → Y) (old mid new : List Y) (xs : List X) (i : ℕ) (d : X) → i < length xs → p (get_or xs i d) ≡ true → mid ≡ old ++ map f (filter p (take i xs)) → new ≡ mid ++ f (get_or xs i d) ∷ [] → new ≡ old ++ map f (filter p (take (i + 1) xs))
  put_kept_as f old mid new xs i d l h m n =
      let more : filter p (take (i + 1) xs) ≡ filter p (take i xs) ++ get_or xs i d ∷ [] = filter_more p xs i d l ∙ ap (λ b. filter p (take i xs) ++ cond b (get_or xs i d ∷ []) []) h in
      n ∙ (ap (λ ys. ys ++ f (get_or xs i d) ∷ []) m
      ∙ (append_assoc old (map f (filter p (take i xs))) (f (get_or xs i d) ∷ [])
      ∙ ap (λ ys. old ++ ys) (sym (ap (map f) more ∙ map-append f (filter p (take i xs)) (get_or xs i d ∷ [])))))

-- the bounds of a key in a bag
module _ (key : List ℤ) (es : List Entry) (from to : ℕ) where
  abbrev has : Entry → Bool
  has e = same_row (take (length key) e.row) key

  has_is : (e : Entry) → has e ≡ is_eq (slice_cmp int_cmp (take (length key) e.row) key)
  has_is e = same_row_is (take (length key) e.row) key

  from_to : from ≤ length es → AllWithin (λ e. is_before_key false key e ≡ true) es 0 from → AllWithin (λ e. is_before_key true key e ≡ false) es to (length es) → from ≤ to
  from_to l before behind =
      ⊎_elim
      (λ m.
      let first = both_before (slice_cmp int_cmp (take (length key) (get_or es to no_entry).row) key) (before to no_entry (omega arith) m) in
      absurd (true≢false (sym first ∙ behind to no_entry (omega arith) (omega (arith, l, m)))))
      (λ m. m)
      (cases_lt to from)

  -- no entry before the lower bound has the key
  none_before : from ≤ length es → AllWithin (λ e. is_before_key false key e ≡ true) es 0 from → filter has (take from es) ≡ []
  none_before l before = none_front has es from l (λ i d a b. has_is (get_or es i d) ∙ before_differs (slice_cmp int_cmp (take (length key) (get_or es i d).row) key) (before i d a b))

  -- no entry from the upper bound on has the key
  none_after : AllWithin (λ e. is_before_key true key e ≡ false) es to (length es) → filter has (take to es) ≡ filter has es
  none_after behind = none_behind has es to (λ i d a b. has_is (get_or es i d) ∙ behind_differs (slice_cmp int_cmp (take (length key) (get_or es i d).row) key) (behind i d a b))

  -- all entries between the bounds have the key
  has_between : (i : ℕ) (d : Entry) → from ≤ i → i < to → to ≤ length es → AllWithin (λ e. is_before_key false key e ≡ false) es from (length es) → AllWithin (λ e. is_before_key true key e ≡ true) es 0 to → has (get_or es i d) ≡ true
  has_between i d l m n behind before =
      has_is (get_or es i d)
      ∙ between_equal (slice_cmp int_cmp (take (length key) (get_or es i d).row) key) (behind i d l (omega (arith, m, n))) (before i d (omega arith) m)

  range_at : to ≤ length es → from ≤ length es
      → AllWithin (λ e. is_before_key false key e ≡ true) es 0 from → AllWithin (λ e. is_before_key false key e ≡ false) es from (length es)
      → AllWithin (λ e. is_before_key true key e ≡ true) es 0 to → AllWithin (λ e. is_before_key true key e ≡ false) es to (length es)
      → IsKeyRange (length key) key es from to
  range_at n l a b c d = record {
    order = from_to l a d;
    inside = n;
    before = none_before l a;
    within = λ i e m o. has_between i e m o n b c;
    behind = none_after d;
  }

  -- the bounds are the range of the key, if the entry at the lower one has it and no entry before
  -- that one has
  range_from : IsBag es → from < length es → to ≤ length es → ((d : Entry) → take (length key) (get_or es from d).row ≡ key) → filter has (take from es) ≡ []
      → AllWithin (λ e. is_before_key true key e ≡ true) es 0 to → AllWithin (λ e. is_before_key true key e ≡ false) es to (length es)
      → (from < to) × IsKeyRange (length key) key es from to
  range_from bag l n own none before behind = (
    more,
    record {
      order = omega (arith, more);
      inside = n;
      before = none;
      within = λ i d m o. has_between i d m o n (behind_from false key es bag from l (λ d. ap (λ r. precedes false (slice_cmp int_cmp r key)) (own d) ∙ ap (precedes false) (columns_refl key))) before;
      behind = none_after behind;
    },
  )
    where
      more : from < to
      more =
          ⊎_elim
          (λ m. m)
          (λ m.
          let first : is_before_key true key (get_or es from no_entry) ≡ true = ap (λ r. precedes true (slice_cmp int_cmp r key)) (own no_entry) ∙ ap (precedes true) (columns_refl key) in
          absurd (true≢false (sym first ∙ behind from no_entry m l)))
          (cases_lt from to)

  -- at the upper bound another key starts
  start_at : AllWithin (λ e. is_before_key true key e ≡ true) es 0 to → AllWithin (λ e. is_before_key true key e ≡ false) es to (length es) → IsKeyStart (length key) es to
  start_at before behind d l = none_front (has_key (length key) next) es to (omega (arith, l)) (λ j x a b. step j x b (has_key (length key) next (get_or es j x)) refl)
    where
      next : List ℤ
      next = take (length key) (get_or es to d).row

      step : (j : ℕ) (x : Entry) → j < to → (b : Bool) → has_key (length key) next (get_or es j x) ≡ b → has_key (length key) next (get_or es j x) ≡ false
      step j x m true e =
          let same = row_same (take (length key) (get_or es j x).row) next e in
          absurd (true≢false (sym (before j x (omega arith) m) ∙ (ap (λ r. precedes true (slice_cmp int_cmp r key)) same ∙ behind to d (omega arith) l)))
      step j x m false e = e

-- the two bounds that the searches find are the range of the key
pub key_range_is : (k : ℕ) (key own : List ℤ) (es : List Entry) (from to : ℕ) → key ≡ own → length own ≡ k → to ≤ length es → from ≤ length es
    → AllWithin (λ e. is_before_key false key e ≡ true) es 0 from → AllWithin (λ e. is_before_key false key e ≡ false) es from (length es)
    → AllWithin (λ e. is_before_key true key e ≡ true) es 0 to → AllWithin (λ e. is_before_key true key e ≡ false) es to (length es)
    → IsKeyRange k own es from to
key_range_is k key own es from to e long n l a b c d =
    subst (λ (m : ℕ). IsKeyRange m own es from to) long
    (subst (λ (key : List ℤ). IsKeyRange (length key) key es from to) e (range_at key es from to n l a b c d))

-- the end of the range of the key of an entry before which no entry has the key
module _ (k : ℕ) (key : List ℤ) (es : List Entry) (bag : IsBag es) (from to : ℕ) (long : length key ≡ k) (own : (d : Entry) → key ≡ take k (get_or es from d).row)
    (l : from < length es) (start : IsKeyStart k es from) (n : to ≤ length es)
    (before : AllWithin (λ e. is_before_key true key e ≡ true) es 0 to) (behind : AllWithin (λ e. is_before_key true key e ≡ false) es to (length es)) where
  found : (from < to) × IsKeyRange (length key) key es from to
  found =
      range_from key es from to bag l n (λ d. ap (λ m. take m (get_or es from d).row) long ∙ sym (own d))
      ((λ i. filter (has_key (long i) (own no_entry i)) (take from es)) ∙ start no_entry l) before behind

  -- up to it the entries are the range of the key
  pub end_range : (d : Entry) → IsKeyRange k (take k (get_or es from d).row) es from to
  end_range d = subst (λ (r : List ℤ). IsKeyRange k r es from to) (own d) (subst (λ (m : ℕ). IsKeyRange m key es from to) long found.1)

  -- the range is not empty
  pub end_more : from < to
  end_more = found.0

  -- and another key starts there
  pub end_start : IsKeyStart k es to
  end_start = subst (λ (m : ℕ). IsKeyStart m es to) long (start_at key es from to before behind)

-- if an entry on the left has a product that is too large, the join has one
pub large_pair : (k : ℕ) (left right : List Entry) (i : ℕ) (x : Entry) → i < length left → x ≡ get_or left i no_entry → (r : Refusal) → IsMemoryOrOverflow (HasLargeProduct k x right) r → IsMemoryOrOverflow (HasLargePair k left right) r
large_pair k left right i x l e r refused =
    ⊎_elim
    (λ memory. inl memory)
    (λ large. inr (large.0, (i, x, l, get_or_default left i x no_entry l ∙ sym e, large.1)))
    refused
