-- In a list sorted by row, the rows that begin with a key are neighbours.
use Rattle.std.proofs.Common.{◌≡◌, ℕ, zero, suc, ◌+◌, ◌-◌, ◌<◌, ◌≤◌, Bool, true, false, cond, List, [], ◌∷◌, length, get_or, take, drop, ℤ, refl, sym, ap, ◌∙◌, subst, length-take, length-drop, arith}
use Rattle.std.specs.Prelude.{slice_range}
use Rattle.std.specs.List.{All, AllWithin, filter}
use Rattle.std.specs.List.Sorted.{IsStrictlySortedBy, IsPartitionedBy, IsPartitionPoint}
use Rattle.std.specs.Cmp.{IsTotalOrder}
use Rattle.std.specs.Cmp.Lexicographic.{slice_cmp, lists_total, lists_ties}
use Rattle.std.specs.Ordering.{int_cmp, is_eq, is_lt, is_le, is_gt, ordering_then, ordering_reverse}
use Rattle.std.specs.declared.cmp.Ordering.{Ordering}
use Rattle.std.specs.declared.cmp.Ordering.TheVariants.{Less, Equal, Greater}
use Rattle.std.proofs.lemmas.Cmp.{int_cmp_total, upto}
use Rattle.std.proofs.lemmas.Bool.{true≢false}
use Rattle.std.proofs.lemmas.List.Elements.{All-from_recursion}
use Rattle.std.proofs.lemmas.List.{get_or-take, get_or-drop}
use Rattle.std.proofs.lemmas.Map.Keys.{sorted_head, sorted_tail}
use Rattle.update.specs.declared.change.Update.{Update}
use Rattle.columns.specs.Keys.{by_row_then_time, begins_with, at_key, AllBefore, AllAfter}

module _ {X : Type 0} where
  -- if a test that passes at an element also passes at all earlier elements, then it splits a
  -- sorted list in two
  pub parted : (c : X → X → Ordering) (p : X → Bool) → ((x y : X) → c x y ≡ Less → p y ≡ true → p x ≡ true) → (xs : List X) → IsStrictlySortedBy c xs → IsPartitionedBy p xs
  parted c p keeps [] s i j d le lt h = absurd (omega (arith, lt))
  parted c p keeps (x ∷ xs) s zero zero d le lt h = h
  parted c p keeps (x ∷ xs) s zero (suc j) d le lt h =
      keeps x (get_or xs j d) (All-from_recursion (λ y. c x y ≡ Less) xs (sorted_head c x xs s) j d (omega (arith, lt))) h
  parted c p keeps (x ∷ xs) s (suc i) zero d le lt h = absurd (omega (arith, le))
  parted c p keeps (x ∷ xs) s (suc i) (suc j) d le lt h =
      parted c p keeps xs (sorted_tail c x xs s) i j d (omega (arith, le)) (omega (arith, lt)) h

  -- if exactly the n elements from i on pass a test, then a filter keeps exactly these
  pub run_is_filter : (p : X → Bool) (xs : List X) (i n : ℕ) → ((k : ℕ) (d : X) → k < i → k < length xs → p (get_or xs k d) ≡ false) → ((k : ℕ) (d : X) → i ≤ k → k < i + n → k < length xs → p (get_or xs k d) ≡ true) → ((k : ℕ) (d : X) → i + n ≤ k → k < length xs → p (get_or xs k d) ≡ false) → take n (drop i xs) ≡ filter p xs
  run_is_filter p [] zero zero low mid high = refl
  run_is_filter p [] zero (suc n) low mid high = refl
  run_is_filter p [] (suc i) zero low mid high = refl
  run_is_filter p [] (suc i) (suc n) low mid high = refl
  run_is_filter p (x ∷ xs) (suc i) n low mid high =
      let first : p x ≡ false = low 0 x (omega arith) (omega arith) in
      let rest = run_is_filter p xs i n
      (λ k d l m. low (suc k) d (omega (arith, l)) (omega (arith, m)))
      (λ k d g l m. mid (suc k) d (omega (arith, g)) (omega (arith, l)) (omega (arith, m)))
      (λ k d g m. high (suc k) d (omega (arith, g)) (omega (arith, m))) in
      rest ∙ ap (λ b. cond b (x ∷ filter p xs) (filter p xs)) (sym first)
  run_is_filter p (x ∷ xs) zero (suc n) low mid high =
      let first : p x ≡ true = mid 0 x (omega arith) (omega arith) (omega arith) in
      let rest = run_is_filter p xs zero n
      (λ k d l m. absurd (omega (arith, l)))
      (λ k d g l m. mid (suc k) d (omega arith) (omega (arith, l)) (omega (arith, m)))
      (λ k d g m. high (suc k) d (omega (arith, g)) (omega (arith, m))) in
      ap (λ ys. x ∷ ys) rest ∙ ap (λ b. cond b (x ∷ filter p xs) (filter p xs)) (sym first)
  run_is_filter p (x ∷ xs) zero zero low mid high =
      let first : p x ≡ false = high 0 x (omega arith) (omega arith) in
      let rest = run_is_filter p xs zero zero
      (λ k d l m. absurd (omega (arith, l)))
      (λ k d g l m. absurd (omega (arith, l)))
      (λ k d g m. high (suc k) d (omega arith) (omega (arith, m))) in
      rest ∙ ap (λ b. cond b (x ∷ filter p xs) (filter p xs)) (sym first)

-- what holds from an index to the end holds of the rest of the list from there on
pub all_dropped : {X : Type 0} (P : X → Type 0) (xs : List X) (i : ℕ) → AllWithin P xs i (length xs) → All P (drop i xs)
all_dropped P xs i a k d h =
    let long = length-drop i xs in
    subst P (sym (get_or-drop i xs k d)) (a (i + k) d (omega arith) (omega (arith, h, long)))

-- what holds between two indexes holds of the part of the list between them
pub all_between_places : {X : Type 0} (P : X → Type 0) (xs : List X) (i j : ℕ) → AllWithin P xs i j → All P (slice_range xs i j)
all_between_places P xs i j a k d h =
    let long = length-take (j - i) (drop i xs) in
    let within : k < j - i = omega (arith, h, long) in
    subst P (sym (get_or-take (j - i) (drop i xs) k d within ∙ get_or-drop i xs k d)) (a (i + k) d (omega arith) (omega (arith, within)))

-- a comparison that tests as less has the answer Less
pub less_from_test : (o : Ordering) → is_lt o ≡ true → o ≡ Less
less_from_test Less e = refl
less_from_test Equal e = absurd (true≢false (sym e))
less_from_test Greater e = absurd (true≢false (sym e))

-- a comparison that tests as neither less nor equal has the answer Greater
pub greater_from_test : (o : Ordering) → is_le o ≡ false → o ≡ Greater
greater_from_test Less e = absurd (true≢false e)
greater_from_test Equal e = absurd (true≢false e)
greater_from_test Greater e = refl

less_not_equal : (o : Ordering) → is_lt o ≡ true → is_eq o ≡ false
less_not_equal Less e = refl
less_not_equal Equal e = absurd (true≢false (sym e))
less_not_equal Greater e = refl

between_is_equal : (o : Ordering) → is_lt o ≡ false → is_le o ≡ true → is_eq o ≡ true
between_is_equal Less e f = absurd (true≢false e)
between_is_equal Equal e f = refl
between_is_equal Greater e f = absurd (true≢false (sym f))

above_not_equal : (o : Ordering) → is_le o ≡ false → is_eq o ≡ false
above_not_equal Less e = refl
above_not_equal Equal e = absurd (true≢false e)
above_not_equal Greater e = refl

less_is_upto : (o : Ordering) → is_lt o ≡ true → is_le o ≡ true
less_is_upto Less e = refl
less_is_upto Equal e = refl
less_is_upto Greater e = absurd (true≢false (sym e))

upto_is_not_above : (o : Ordering) → is_le o ≡ true → is_gt o ≡ false
upto_is_not_above Less e = refl
upto_is_not_above Equal e = refl
upto_is_not_above Greater e = absurd (true≢false (sym e))

not_above_is_upto : (o : Ordering) → is_gt o ≡ false → is_le o ≡ true
not_above_is_upto Less e = refl
not_above_is_upto Equal e = refl
not_above_is_upto Greater e = absurd (true≢false e)

turned : (o : Ordering) → is_gt (ordering_reverse o) ≡ is_lt o
turned Less = refl
turned Equal = refl
turned Greater = refl

less_or_not : (b : Bool) → (b ≡ false → ⊥) → b ≡ true
less_or_not true h = refl
less_or_not false h = absurd (h refl)

first_not_above : (a b : Ordering) → ordering_then a b ≡ Less → is_gt a ≡ false
first_not_above Less b e = refl
first_not_above Equal b e = refl
first_not_above Greater b e = cc

both : (o a b : Ordering) → (is_gt a ≡ false → is_gt b ≡ false) → is_gt (ordering_then o a) ≡ false → is_gt (ordering_then o b) ≡ false
both Less a b k h = refl
both Equal a b k h = k h
both Greater a b k h = h

-- the beginnings of two rows are in the same order as the rows, or equal
beginnings : (k : ℕ) (r s : List ℤ) → is_gt (slice_cmp int_cmp r s) ≡ false → is_gt (slice_cmp int_cmp (take k r) (take k s)) ≡ false
beginnings zero r s h = refl
beginnings (suc k) [] [] h = refl
beginnings (suc k) [] (y ∷ s) h = refl
beginnings (suc k) (x ∷ r) [] h = h
beginnings (suc k) (x ∷ r) (y ∷ s) h = both (int_cmp x y) (slice_cmp int_cmp r s) (slice_cmp int_cmp (take k r) (take k s)) (beginnings k r s) h

module _ {T : Type 0} (cmp : T → T → Ordering) (key : List ℤ) where
  rows_total : IsTotalOrder (slice_cmp int_cmp)
  rows_total = lists_total int_cmp_total

  in_order : (u v : Update T) → by_row_then_time cmp u v ≡ Less → is_gt (slice_cmp int_cmp (take (length key) u.row) (take (length key) v.row)) ≡ false
  in_order u v h = beginnings (length key) u.row v.row (first_not_above (slice_cmp int_cmp u.row v.row) (cmp u.time v.time) h)

  -- the updates whose rows begin with at most the key are at the front
  pub keeps_upto : (u v : Update T) → by_row_then_time cmp u v ≡ Less → is_le (at_key key v) ≡ true → is_le (at_key key u) ≡ true
  keeps_upto u v h e =
      not_above_is_upto (at_key key u)
      (upto rows_total (take (length key) u.row) (take (length key) v.row) key (in_order u v h) (upto_is_not_above (at_key key v) e))

  back : (r : List ℤ) → is_gt (slice_cmp int_cmp key r) ≡ is_lt (slice_cmp int_cmp r key)
  back r = ap is_gt (rows_total.antisymm key r) ∙ turned (slice_cmp int_cmp r key)

  -- the updates whose rows begin with less than the key are at the front
  pub keeps_before : (u v : Update T) → by_row_then_time cmp u v ≡ Less → is_lt (at_key key v) ≡ true → is_lt (at_key key u) ≡ true
  keeps_before u v h e =
      less_or_not (is_lt (at_key key u))
      (λ f.
      let later = upto rows_total key (take (length key) u.row) (take (length key) v.row) (back (take (length key) u.row) ∙ f) (in_order u v h) in
      true≢false (sym e ∙ sym (back (take (length key) v.row)) ∙ later))

  at_key_is : (u : Update T) → begins_with key u ≡ is_eq (at_key key u)
  at_key_is u = lists_ties int_cmp (λ x y. refl) (take (length key) u.row) key

  -- the start of a key's range is at or before its end
  pub ends_in_order : (us : List (Update T)) (i j : ℕ) → i ≤ length us → IsPartitionPoint (λ u. is_lt (at_key key u) ≡ true) (λ u. is_lt (at_key key u) ≡ false) us i → IsPartitionPoint (λ u. is_le (at_key key u) ≡ true) (λ u. is_le (at_key key u) ≡ false) us j → i ≤ j
  ends_in_order [] i j l p q = omega (arith, l)
  ends_in_order (d ∷ us) i j l p q =
      let other : j < i → ⊥ = λ m. true≢false (sym (less_is_upto (at_key key (get_or (d ∷ us) j d)) (p.0 j d (omega arith) m)) ∙ q.1 j d (omega arith) (omega (arith, l, m))) in
      omega (arith, other)

  -- the updates in the range are exactly those whose rows begin with the key
  pub range_is_filter : (us : List (Update T)) (i j : ℕ) → i ≤ j → IsPartitionPoint (λ u. is_lt (at_key key u) ≡ true) (λ u. is_lt (at_key key u) ≡ false) us i → IsPartitionPoint (λ u. is_le (at_key key u) ≡ true) (λ u. is_le (at_key key u) ≡ false) us j → slice_range us i j ≡ filter (begins_with key) us
  range_is_filter us i j l p q =
      run_is_filter (begins_with key) us i (j - i)
      (λ k d m n. at_key_is (get_or us k d) ∙ less_not_equal (at_key key (get_or us k d)) (p.0 k d (omega arith) m))
      (λ k d g m n. at_key_is (get_or us k d) ∙ between_is_equal (at_key key (get_or us k d)) (p.1 k d g n) (q.0 k d (omega arith) (omega (arith, m, l))))
      (λ k d g n. at_key_is (get_or us k d) ∙ above_not_equal (at_key key (get_or us k d)) (q.1 k d (omega (arith, g, l)) n))

  -- the updates in front of a key's range come before the key
  pub front_before : (us : List (Update T)) (i : ℕ) → IsPartitionPoint (λ u. is_lt (at_key key u) ≡ true) (λ u. is_lt (at_key key u) ≡ false) us i → AllBefore key (take i us)
  front_before us i p =
      let front : slice_range us 0 i ≡ take i us = ap (λ n. take n us) (omega arith) in
      subst (AllBefore key) front (all_between_places (λ u. at_key key u ≡ Less) us 0 i (λ k d g h. less_from_test (at_key key (get_or us k d)) (p.0 k d g h)))

  -- the updates behind a key's range come after the key
  pub end_after : (us : List (Update T)) (j : ℕ) → IsPartitionPoint (λ u. is_le (at_key key u) ≡ true) (λ u. is_le (at_key key u) ≡ false) us j → AllAfter key (drop j us)
  end_after us j q = all_dropped (λ u. at_key key u ≡ Greater) us j (λ k d g h. greater_from_test (at_key key (get_or us k d)) (q.1 k d g h))
