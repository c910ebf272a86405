-- A batch is sorted by row, so its keys come in order. What comes before one key comes before the
-- later ones: the place of a key may be sought from where an earlier one was found.
use Rattle.std.proofs.Common.{◌≡◌, ℕ, ◌+◌, ◌-◌, ◌≤◌, ◌<◌, true, List, [], take, drop, length, get_or, slice_get, IsTrue, IsSomeAnd, ℤ, refl, sym, ◌∙◌, ap, subst, arith, length-take, length-drop, ⊎_elim}
use Rattle.std.specs.Prelude.{slice_range}
use Rattle.std.specs.List.{filter, list_all}
use Rattle.std.specs.List.Sorted.{IsStrictlySortedBy}
use Rattle.std.specs.Cmp.{IsTotalOrder}
use Rattle.std.specs.Cmp.Lexicographic.{slice_cmp, lists_total}
use Rattle.std.specs.Ordering.{int_cmp, is_le, ordering_reverse}
use Rattle.std.specs.declared.cmp.Ordering.{Ordering}
use Rattle.std.specs.declared.cmp.Ordering.TheVariants.{Less, Equal, Greater}
use Rattle.std.proofs.lemmas.Bool.{true≢false, cases_lt, leb-true}
use Rattle.std.proofs.lemmas.Cmp.{int_cmp_total, tied_itself}
use Rattle.std.proofs.lemmas.List.{get_or-take, get_or-drop}
use Rattle.update.specs.declared.change.Update.{Update}
use Rattle.batch.specs.Batches.{by_row_then_time, at_key, AllBefore, NoneBefore, NoneAfter, AllAfter}
use Rattle.batch.proofs.KeyLemmas.{parted, keeps_upto}
use Rattle.batch.proofs.SeekLemmas.{found_is_filter, front_left_out}
use Rattle.join.specs.Pairs.{is_keyed, is_wide}
use Rattle.join.proofs.FormedLemmas.{at_some, passes_at}

pub rows_total : IsTotalOrder (slice_cmp int_cmp)
rows_total = lists_total int_cmp_total

upto_or_tied : (o : Ordering) → is_le o ≡ true → (o ≡ Less → ⊥) → o ≡ Equal
upto_or_tied Less e f = absurd (f refl)
upto_or_tied Equal e f = refl
upto_or_tied Greater e f = absurd (true≢false (sym e))

-- what is less than a row is less than what is not below that row
less_upto : (a b c : List ℤ) → slice_cmp int_cmp a b ≡ Less → is_le (slice_cmp int_cmp b c) ≡ true → slice_cmp int_cmp a c ≡ Less
less_upto a b c l e = step (slice_cmp int_cmp b c) refl
  where
    step : (o : Ordering) → slice_cmp int_cmp b c ≡ o → slice_cmp int_cmp a c ≡ Less
    step Less f = rows_total.trans a b c l f
    step Equal f = rows_total.antisymm a c ∙ ap ordering_reverse (sym (rows_total.congr b c a f)) ∙ sym (rows_total.antisymm a b) ∙ l
    step Greater f = absurd (true≢false (sym e ∙ ap is_le f))

module _ {T : Type 0} (cmp : T → T → Ordering) (k : ℕ) where
  -- the keys of a sorted list come in order
  pub keys_rise : (us : List (Update T)) (i j : ℕ) (d : Update T) → IsStrictlySortedBy (by_row_then_time cmp) us → k ≤ length (get_or us j d).row → i ≤ j → j < length us → is_le (slice_cmp int_cmp (take k (get_or us i d).row) (take k (get_or us j d).row)) ≡ true
  keys_rise us i j d sorted wide g h =
      let key = take k (get_or us j d).row in
      let long : length key ≡ k = length-take k (get_or us j d).row ∙ omega (arith, wide) in
      let own : is_le (at_key key (get_or us j d)) ≡ true =
      ap (λ n. is_le (slice_cmp int_cmp (take n (get_or us j d).row) key)) long ∙ ap is_le (tied_itself rows_total key) in
      sym (ap (λ n. is_le (slice_cmp int_cmp (take n (get_or us i d).row) key)) long)
      ∙ parted (by_row_then_time cmp) (λ u. is_le (at_key key u)) (keeps_upto cmp key) us sorted i j d g h own

module _ {T : Type 0} where
  -- what comes before a key comes before a later one
  before_later : (key later : List ℤ) (vs : List (Update T)) → length key ≡ length later → is_le (slice_cmp int_cmp key later) ≡ true → AllBefore key vs → AllBefore later vs
  before_later key later vs same e before i d h =
      let row = (get_or vs i d).row in
      less_upto (take (length later) row) key later
      (ap (λ n. slice_cmp int_cmp (take n row) key) (sym same) ∙ before i d h)
      e

  -- what comes before a key of a sorted list comes before the keys behind it
  pub front_stays : (cmp : T → T → Ordering) (k : ℕ) (us vs : List (Update T)) (i j : ℕ) (d : Update T) → IsStrictlySortedBy (by_row_then_time cmp) us → k ≤ length (get_or us i d).row → k ≤ length (get_or us j d).row → i ≤ j → j < length us → AllBefore (take k (get_or us i d).row) vs → AllBefore (take k (get_or us j d).row) vs
  front_stays cmp k us vs i j d sorted wide also g h before =
      before_later (take k (get_or us i d).row) (take k (get_or us j d).row) vs
      (length-take k (get_or us i d).row ∙ omega (arith, wide, also) ∙ sym (length-take k (get_or us j d).row))
      (keys_rise cmp k us i j d sorted also g h)
      before

  -- what comes before a key in front of a place, and from there to another one, comes before it in
  -- front of that one
  pub front_grows : (key : List ℤ) (vs : List (Update T)) (a b : ℕ) → a ≤ b → b ≤ length vs → AllBefore key (take a vs) → AllBefore key (slice_range vs a b) → AllBefore key (take b vs)
  front_grows key vs a b g l front more i d h =
      let long = length-take b vs in
      let within : i < b = omega (arith, long, h) in
      ap (at_key key) (get_or-take b vs i d within) ∙ ⊎_elim first (λ m. second m within) (cases_lt i a)
    where
      first : i < a → at_key key (get_or vs i d) ≡ Less
      first m =
          let short = length-take a vs in
          sym (ap (at_key key) (get_or-take a vs i d m)) ∙ front i d (omega (arith, short, m, g, l))

      second : a ≤ i → i < b → at_key key (get_or vs i d) ≡ Less
      second m n =
          let long = length-take (b - a) (drop a vs) in
          let rest = length-drop a vs in
          let inside : i - a < b - a = omega (arith, m, n) in
          let here : i - a < length (slice_range vs a b) = omega (arith, long, rest, m, n, l) in
          let same : a + (i - a) ≡ i = omega (arith, m) in
          let there : get_or (slice_range vs a b) (i - a) d ≡ get_or vs i d = get_or-take (b - a) (drop a vs) (i - a) d inside ∙ get_or-drop a vs (i - a) d ∙ ap (λ n. get_or vs n d) same in
          ap (at_key key) (sym there) ∙ more (i - a) d here

  -- what is found by seeking past a key from its place on are the updates of the key
  pub found_is : (k : ℕ) (row : List ℤ) (vs : List (Update T)) (start end : ℕ) → k ≤ length row → start ≤ end → end ≤ length vs → AllBefore (take k row) (take start vs) → NoneBefore (take k row) (drop start vs) → NoneAfter (take k row) (slice_range vs start end) → AllAfter (take k row) (drop end vs) → slice_range vs start end ≡ filter (is_keyed k (take k row)) vs
  found_is k row vs start end wide g l front rest inside behind =
      let key = take k row in
      let long : length key ≡ k = length-take k row ∙ omega (arith, wide) in
      let still : start - start ≡ 0 = omega arith in
      let none : slice_range vs start start ≡ [] = ap (λ n. take n (drop start vs)) still in
      let nothing : AllBefore key (slice_range vs start start) = subst (AllBefore key) (sym none) (λ i d h. absurd (omega (arith, h))) in
      found_is_filter vs key start start end (omega arith) g l nothing rest inside behind
      ∙ front_left_out vs key start front
      ∙ ap (λ n. filter (λ v. is_keyed n key v) vs) long

  -- the place of an update's key has in front of it only what comes before the key
  pub next_front : (k : ℕ) (us vs : List (Update T)) (i from place : ℕ) (u : Update T) → IsSomeAnd (slice_get us i) (λ w. u ≡ w) → i < length us → from ≤ place → place ≤ length vs → ((j : ℕ) (d : Update T) → i ≤ j → j < length us → AllBefore (take k (get_or us j d).row) (take from vs)) → AllBefore (take k u.row) (slice_range vs from place) → AllBefore (take k u.row) (take place vs)
  next_front k us vs i from place u e h g l fronts more =
      let is = at_some (λ w. u ≡ w) us i e u in
      front_grows (take k u.row) vs from place g l
      (subst (λ (w : Update T). AllBefore (take k w.row) (take from vs)) (sym is) (fronts i u (omega arith) h))
      more

  -- and only what comes before the keys behind it
  pub later_fronts : (cmp : T → T → Ordering) (k : ℕ) (us vs : List (Update T)) (i : ℕ) (u : Update T) → IsStrictlySortedBy (by_row_then_time cmp) us → IsTrue (list_all (λ w. is_wide k w.row) us) → IsSomeAnd (slice_get us i) (λ w. u ≡ w) → i < length us → AllBefore (take k u.row) vs → (j : ℕ) (d : Update T) → i + 1 ≤ j → j < length us → AllBefore (take k (get_or us j d).row) vs
  later_fronts cmp k us vs i u sorted wide e h before j d g l =
      let is = at_some (λ w. u ≡ w) us i e d in
      front_stays cmp k us vs i j d sorted (wide_at k us i d wide h) (wide_at k us j d wide l) (omega (arith, g)) l
      (subst (λ (w : Update T). AllBefore (take k w.row) vs) is before)
    where
      wide_at : (k : ℕ) (us : List (Update T)) (i : ℕ) (d : Update T) → IsTrue (list_all (λ w. is_wide k w.row) us) → i < length us → k ≤ length (get_or us i d).row
      wide_at k us i d wide h = leb-true k (length (get_or us i d).row) (passes_at (λ w. is_wide k w.row) us i d h wide)
