-- What a reader finds by seeking a key, and then past it, are the rows of the key.
use Rattle.std.proofs.Common.{◌≡◌, ◌≢◌, ℕ, zero, suc, ◌+◌, ◌-◌, ◌<◌, ◌≤◌, Bool, true, false, cond, List, [], ◌∷◌, length, get_or, take, drop, ℤ, refl, sym, ap, ◌∙◌, subst, length-take, length-drop, arith}
use Rattle.std.specs.Prelude.{slice_range}
use Rattle.std.specs.List.{All, AllWithin, filter}
use Rattle.std.specs.Cmp.Lexicographic.{lists_ties}
use Rattle.std.specs.Ordering.{int_cmp, is_eq}
use Rattle.std.specs.declared.cmp.Ordering.{Ordering}
use Rattle.std.specs.declared.cmp.Ordering.TheVariants.{Less, Equal, Greater}
use Rattle.std.proofs.lemmas.List.{get_or-take, get_or-drop, drop-drop}
use Rattle.update.specs.declared.change.Update.{Update}
use Rattle.batch.specs.Batches.{begins_with, at_key, AllBefore, NoneBefore, AllAfter, NoneAfter}
use Rattle.columns.proofs.KeyLemmas.{run_is_filter}

module _ {X : Type 0} (p : X → Bool) (xs : List X) where
  -- the length of a part of a list
  pub range_long : (i j : ℕ) → i ≤ j → j ≤ length xs → length (slice_range xs i j) ≡ j - i
  range_long i j g h =
      let long = length-take (j - i) (drop i xs) in
      let rest = length-drop i xs in
      omega (arith, long, rest, g, h)

-- the update's row begins with the key if and only if it is neither before nor after the rows of
-- the key
begins_is : {T : Type 0} (key : List ℤ) (u : Update T) → begins_with key u ≡ is_eq (at_key key u)
begins_is key u = lists_ties int_cmp (λ x y. refl) (take (length key) u.row) key

begins_not : {T : Type 0} (key : List ℤ) (u : Update T) (o : Ordering) → at_key key u ≡ o → is_eq o ≡ false → begins_with key u ≡ false
begins_not key u o e f = begins_is key u ∙ ap is_eq e ∙ f

neither : (o : Ordering) → o ≢ Less → o ≢ Greater → is_eq o ≡ true
neither Less l g = absurd (l refl)
neither Equal l g = refl
neither Greater l g = absurd (g refl)

module _ {X : Type 0} (P : X → Type 0) (xs : List X) where
  inside_at : (i j : ℕ) → j ≤ length xs → All P (slice_range xs i j) → AllWithin P xs i j
  inside_at i j l a k d g h =
      let long = length-take (j - i) (drop i xs) in
      let rest = length-drop i xs in
      let here : k - i < length (slice_range xs i j) = omega (arith, long, rest, g, h, l) in
      let within : k - i < j - i = omega (arith, g, h) in
      let same : i + (k - i) ≡ k = omega (arith, g) in
      let there : get_or (slice_range xs i j) (k - i) d ≡ get_or xs k d = get_or-take (j - i) (drop i xs) (k - i) d within ∙ get_or-drop i xs (k - i) d ∙ ap (λ n. get_or xs n d) same in
      subst P there (a (k - i) d here)

  rest_at : (i : ℕ) → All P (drop i xs) → AllWithin P xs i (length xs)
  rest_at i a k d g h =
      let long = length-drop i xs in
      let here : k - i < length (drop i xs) = omega (arith, long, g, h) in
      let same : i + (k - i) ≡ k = omega (arith, g) in
      subst P (get_or-drop i xs (k - i) d ∙ ap (λ n. get_or xs n d) same) (a (k - i) d here)

-- a filter passes over the elements at the front that fail its test
filter_past : {X : Type 0} (p : X → Bool) (xs : List X) (n : ℕ) → All (λ x. p x ≡ false) (take n xs) → filter p (drop n xs) ≡ filter p xs
filter_past p xs zero a = refl
filter_past p [] (suc n) a = refl
filter_past p (x ∷ xs) (suc n) a =
    let first : p x ≡ false = a 0 x (omega arith) in
    filter_past p xs n (λ k d h. a (suc k) d (omega (arith, h))) ∙ ap (λ b. cond b (x ∷ filter p xs) (filter p xs)) (sym first)

module _ {T : Type 0} (us : List (Update T)) (key : List ℤ) where
  -- what a reader finds by seeking a key, and then past it, are the rows of the key from its place
  -- on
  pub found_is_filter : (from start end : ℕ) → from ≤ start → start ≤ end → end ≤ length us → AllBefore key (slice_range us from start) → NoneBefore key (drop start us) → NoneAfter key (slice_range us start end) → AllAfter key (drop end us) → slice_range us start end ≡ filter (begins_with key) (drop from us)
  found_is_filter from start end g h l before here inside after =
      let rest = drop from us in
      let long = length-drop from us in
      let begin : from + (start - from) ≡ start = omega (arith, g) in
      let same : drop (start - from) rest ≡ drop start us = drop-drop (start - from) from us ∙ ap (λ n. drop n us) begin in
      let first : start ≤ length us = omega (arith, h, l) in
      ap (take (end - start)) (sym same)
      ∙ run_is_filter (begins_with key) rest (start - from) (end - start)
      (λ k d m n. begins_not key (get_or rest k d) Less (ap (at_key key) (get_or-drop from us k d) ∙ inside_at (λ u. at_key key u ≡ Less) us from start first before (from + k) d (omega arith) (omega (arith, m))) refl)
      (λ k d m n o.
      let low = rest_at (λ u. at_key key u ≢ Less) us start here (from + k) d (omega (arith, m)) (omega (arith, o, long)) in
      let high = inside_at (λ u. at_key key u ≢ Greater) us start end l inside (from + k) d (omega (arith, m)) (omega (arith, n, g, h)) in
      begins_is key (get_or rest k d) ∙ neither (at_key key (get_or rest k d)) (λ e. low (ap (at_key key) (sym (get_or-drop from us k d)) ∙ e)) (λ e. high (ap (at_key key) (sym (get_or-drop from us k d)) ∙ e)))
      (λ k d m n. begins_not key (get_or rest k d) Greater (ap (at_key key) (get_or-drop from us k d) ∙ rest_at (λ u. at_key key u ≡ Greater) us end after (from + k) d (omega (arith, m, g, h)) (omega (arith, n, long))) refl)

  -- rows in front of a place that come before the key can be left out
  pub front_left_out : (from : ℕ) → AllBefore key (take from us) → filter (begins_with key) (drop from us) ≡ filter (begins_with key) us
  front_left_out from before =
      filter_past (begins_with key) us from (λ k d h. begins_not key (get_or (take from us) k d) Less (before k d h) refl)
