-- The runs of a batch: it is in order of row, so the updates of one key are neighbours.
use Rattle.std.proofs.Common.{◌≡◌, ℕ, zero, suc, ◌+◌, ◌-◌, ◌≤◌, ◌<◌, Bool, true, false, cond, List, [], ◌∷◌, ◌++◌, ℤ, map, take, drop, length, get_or, slice_get, Some, IsTrue, ◌⊎◌, inl, inr, ⊎_elim, refl, sym, ap, ◌∙◌, subst, arith, length-take, length-drop}
use Rattle.std.specs.Prelude.{slice_range, nat_le}
use Rattle.std.specs.List.{All, AllWithin, filter, list_all}
use Rattle.std.specs.List.Sorted.{IsStrictlySortedBy}
use Rattle.std.specs.Option.{IsSomeAnd}
use Rattle.std.specs.Cmp.{IsTotalOrder}
use Rattle.std.specs.Cmp.Lexicographic.{slice_cmp, lists_total, lists_ties}
use Rattle.std.specs.Ordering.{int_cmp, is_eq, is_lt}
use Rattle.std.specs.declared.cmp.Ordering.{Ordering}
use Rattle.std.specs.declared.cmp.Ordering.TheVariants.{Less, Equal, Greater}
use Rattle.std.proofs.lemmas.Bool.{true≢false, leb-true, cases_lt, and_parts, and_from}
use Rattle.std.proofs.lemmas.Cmp.{int_cmp_total, tied_itself}
use Rattle.std.proofs.lemmas.List.{get_or-drop, map-append, take_more}
use Rattle.std.proofs.lemmas.List.Elements.{filter-append}
use Rattle.std.proofs.lemmas.List.Folds.{drop_split}
use Rattle.std.proofs.lemmas.Option.{none-some, same_Some}
use Rattle.std.proofs.Math.Seq.{take-add}
use Rattle.update.specs.Bags.{same_row}
use Rattle.update.specs.declared.change.Update.{Update}
use Rattle.columns.specs.Runs.{row_starts, run_place}
use Rattle.columns.proofs.PlaceLemmas.{run_place_onward, run_place_within}
use Rattle.batch.specs.Batches.{by_row_then_time, at_key, begins_with, NoneBefore, NoneAfter, AllAfter, AllBefore}
use Rattle.batch.proofs.KeyLemmas.{parted, keeps_before}
use Rattle.batch.proofs.SeekLemmas.{found_is_filter}
use Rattle.plan.proofs.CountLemmas.{row_same}
use Rattle.joined_times.specs.Joined.{of_key}
use Rattle.key_history.specs.Duties.{are_wide}
use Rattle.reduce.proofs.HistoryLemmas.{at_place}
use Rattle.correction.proofs.KeyedLemmas.{own_kept}

-- ---- lists

module _ {X : Type 0} where
  -- what is read at a place is the element there
  place_is : (xs : List X) (i : ℕ) (x d : X) → slice_get xs i ≡ Some x → get_or xs i d ≡ x
  place_is [] i x d e = absurd (none-some x e)
  place_is (y ∷ xs) zero x d e = same_Some y x e
  place_is (y ∷ xs) (suc i) x d e = place_is xs i x d e

  -- an element passes a test that all pass
  pub place_passes : (p : X → Bool) (xs : List X) (i : ℕ) (P : X → Type 0) → IsTrue (list_all p xs) → IsSomeAnd (slice_get xs i) P → IsSomeAnd (slice_get xs i) (λ x. IsTrue (p x) × P x)
  place_passes p [] i P all is = is
  place_passes p (x ∷ xs) zero P all is = ((and_parts (p x) (list_all p xs) all).0, is)
  place_passes p (x ∷ xs) (suc i) P all is = place_passes p xs i P (and_parts (p x) (list_all p xs) all).1 is

  -- a filter keeps what all pass
  filtered_all : (p : X → Bool) (xs : List X) → IsTrue (list_all p (filter p xs))
  filtered_all p [] = refl
  filtered_all p (x ∷ xs) = step (p x) refl (filtered_all p xs)
    where
      step : (b : Bool) → p x ≡ b → IsTrue (list_all p (filter p xs)) → IsTrue (list_all p (cond b (x ∷ filter p xs) (filter p xs)))
      step true e ih = and_from (p x) (list_all p (filter p xs)) e ih
      step false e ih = ih

  -- it keeps nothing if nothing passes
  filtered_none : (p : X → Bool) (xs : List X) → All (λ x. p x ≡ false) xs → filter p xs ≡ []
  filtered_none p [] none = refl
  filtered_none p (x ∷ xs) none =
      ap (λ b. cond b (x ∷ filter p xs) (filter p xs)) (none 0 x (omega arith))
      ∙ filtered_none p xs (λ i d h. none (suc i) d (omega (arith, h)))

  -- the parts of an empty list are empty
  left_empty : (xs ys : List X) → xs ++ ys ≡ [] → xs ≡ []
  left_empty [] ys e = refl
  left_empty (x ∷ xs) ys e = absurd (cc)

  right_empty : (xs ys : List X) → xs ++ ys ≡ [] → ys ≡ []
  right_empty [] ys e = e
  right_empty (x ∷ xs) ys e = absurd (cc)

  -- the front of a list up to a later place, and what is behind the earlier one
  pub front_longer : (xs : List X) (a b : ℕ) → a ≤ b → take b xs ≡ take a xs ++ slice_range xs a b
  front_longer xs a b g =
      let sum : a + (b - a) ≡ b = omega (arith, g) in
      ap (λ n. take n xs) (sym sum) ∙ take-add a (b - a) xs

-- one more image of a part
pub range_mapped : {X Y : Type 0} (f : X → Y) (xs : List X) (a i : ℕ) (old new : List Y) (y : Y) → a ≤ i → i < length xs → IsSomeAnd (slice_get xs i) (λ x. y ≡ f x)
    → old ≡ map f (slice_range xs a i) → new ≡ old ++ y ∷ [] → new ≡ map f (slice_range xs a (i + 1))
range_mapped f xs a i old new y from within is so_far push =
    let there = at_place (slice_get xs i) is in
    let x = there.0 in
    let rest = length-drop a xs in
    let inside : i - a < length (drop a xs) = omega (arith, rest, from, within) in
    let count : i + 1 - a ≡ (i - a) + 1 = omega (arith, from) in
    let same : a + (i - a) ≡ i = omega (arith, from) in
    let more : slice_range xs a (i + 1) ≡ slice_range xs a i ++ x ∷ [] =
    ap (λ n. take n (drop a xs)) count
    ∙ (take_more (drop a xs) (i - a) x inside
    ∙ ap (λ z. take (i - a) (drop a xs) ++ z ∷ []) (get_or-drop a xs (i - a) x ∙ (ap (λ n. get_or xs n x) same ∙ place_is xs i x x there.1))) in
    push
    ∙ ap (λ zs. zs ++ y ∷ []) so_far
    ∙ ap (λ z. map f (slice_range xs a i) ++ z ∷ []) there.2
    ∙ sym (map-append f (slice_range xs a i) (x ∷ []))
    ∙ ap (map f) (sym more)

-- ---- runs

-- what holds of the element at a place of a list, whatever is taken behind its end
pub some_there : {X : Type 0} (P : X → Type 0) (xs : List X) (i : ℕ) → i < length xs → ((d : X) → P (get_or xs i d)) → IsSomeAnd (slice_get xs i) P
some_there P [] i h a = absurd (omega (arith, h))
some_there P (x ∷ xs) zero h a = a x
some_there P (x ∷ xs) (suc i) h a = some_there P xs i (omega (arith, h)) a

-- the first update of a run has its row
pub first_of_run : {T : Type 0} (us : List (Update T)) (run : ℕ) (row : List ℤ) → run < length (row_starts us) → AllWithin (λ u. u.row ≡ row) us (run_place us run) (run_place us (run + 1)) → IsSomeAnd (slice_get us (run_place us run)) (λ u. row ≡ u.row)
first_of_run us run row h all =
    let onward = run_place_onward us run h in
    let within = run_place_within us (run + 1) in
    some_there (λ u. row ≡ u.row) us (run_place us run) (omega (arith, onward, within)) (λ d. sym (all (run_place us run) d (omega arith) onward))

-- each row of wide updates has a key
pub wide_row : {T : Type 0} (k : ℕ) (us : List (Update T)) (i : ℕ) (row : List ℤ) → IsTrue (are_wide k us) → IsSomeAnd (slice_get us i) (λ u. row ≡ u.row) → k ≤ length row
wide_row k us i row wide is =
    let there = at_place (slice_get us i) (place_passes (λ u. nat_le k (length u.row)) us i (λ u. row ≡ u.row) wide is) in
    rw there.2.1 (leb-true k (length there.0.row) there.2.0)

module _ {T : Type 0} (k : ℕ) where
  -- the updates of a key in part of a batch: some, all of the key, and none of it behind them
  pub record IsRun (key : List ℤ) (us : List (Update T)) (start end : ℕ) : Type 0 where
    pub some : start < end
    pub own : IsTrue (list_all (of_key k key) (slice_range us start end))
    pub last : filter (of_key k key) (drop end us) ≡ []

  -- no key has updates in front of the border and behind it
  abbrev pub IsBorder : List (Update T) → List (Update T) → Type 0
  IsBorder front rest = (key : List ℤ) → (filter (of_key k key) front ≡ []) ⊎ (filter (of_key k key) rest ≡ [])

  -- updates of one key are of no other
  pub others_none : (key other : List ℤ) (us : List (Update T)) → IsTrue (list_all (of_key k key) us) → same_row key other ≡ false → filter (of_key k other) us ≡ []
  others_none key other [] own differs = refl
  others_none key other (u ∷ us) own differs =
      let parts = and_parts (of_key k key u) (list_all (of_key k key) us) own in
      let not : of_key k other u ≡ false = ap (λ r. same_row r other) (row_same (take k u.row) key parts.0) ∙ differs in
      ap (λ b. cond b (u ∷ filter (of_key k other) us) (filter (of_key k other) us)) not ∙ others_none key other us parts.1 differs

  -- the key of a run behind a border has no updates in front of it
  pub run_is_new : (key : List ℤ) (front run rest : List (Update T)) → IsBorder front (run ++ rest) → IsTrue (list_all (of_key k key) run) → 0 < length run → filter (of_key k key) front ≡ []
  run_is_new key front run rest border own some =
      ⊎_elim
      (λ e. e)
      (λ e.
      let kept : run ≡ [] = sym (own_kept k key run own) ∙ left_empty (filter (of_key k key) run) (filter (of_key k key) rest) (sym (filter-append (of_key k key) run rest) ∙ e) in
      let long : length run ≡ 0 = ap length kept in
      absurd (omega (arith, long, some)))
      (border key)

  -- the end of a run is a border as well
  pub border_more : (key : List ℤ) (front run rest : List (Update T)) → IsBorder front (run ++ rest) → IsTrue (list_all (of_key k key) run) → filter (of_key k key) rest ≡ [] → IsBorder (front ++ run) rest
  border_more key front run rest border own last other = step (same_row key other) refl
    where
      step : (b : Bool) → same_row key other ≡ b → (filter (of_key k other) (front ++ run) ≡ []) ⊎ (filter (of_key k other) rest ≡ [])
      step true e = inr (subst (λ r. filter (of_key k r) rest ≡ []) (row_same key other e) last)
      step false e =
          let none = others_none key other run own e in
          ⊎_elim
          (λ f. inl (filter-append (of_key k other) front run ∙ ap (λ xs. xs ++ filter (of_key k other) run) f ∙ none))
          (λ f. inr (right_empty (filter (of_key k other) run) (filter (of_key k other) rest) (sym (filter-append (of_key k other) run rest) ∙ f)))
          (border other)

  -- ---- by places

  -- a run has updates
  pub run_some : (key : List ℤ) (us : List (Update T)) (start end : ℕ) → end ≤ length us → IsRun key us start end → 0 < length (slice_range us start end)
  run_some key us start end l run =
      let long = length-take (end - start) (drop start us) in
      let rest = length-drop start us in
      omega (arith, run.some, long, rest, l)

  -- the key of a run that starts at a border has no updates in front of it
  pub run_first : (key : List ℤ) (us : List (Update T)) (start end : ℕ) → start ≤ end → end ≤ length us → IsRun key us start end → IsBorder (take start us) (drop start us) → filter (of_key k key) (take start us) ≡ []
  run_first key us start end g l run border =
      run_is_new key (take start us) (slice_range us start end) (drop end us)
      (subst (IsBorder (take start us)) (drop_split us start end g) border)
      run.own (run_some key us start end l run)

  -- and it ends at a border
  pub run_ends : (key : List ℤ) (us : List (Update T)) (start end : ℕ) → start ≤ end → IsRun key us start end → IsBorder (take start us) (drop start us) → IsBorder (take end us) (drop end us)
  run_ends key us start end g run border =
      subst (λ front. IsBorder front (drop end us)) (sym (front_longer us start end g))
      (border_more key (take start us) (slice_range us start end) (drop end us) (subst (IsBorder (take start us)) (drop_split us start end g) border) run.own run.last)

module _ {T : Type 0} (cmp : T → T → Ordering) (k : ℕ) where
  rows_total : IsTotalOrder (slice_cmp int_cmp)
  rows_total = lists_total int_cmp_total

  -- what is found by seeking past the key of an update is the rest of the run of this key
  pub run_found : (us : List (Update T)) (key : List ℤ) (start end : ℕ) → IsStrictlySortedBy (by_row_then_time cmp) us → length key ≡ k → IsSomeAnd (slice_get us start) (λ u. key ≡ take k u.row) → start < length us → start ≤ end → end ≤ length us
      → NoneAfter key (slice_range us start end) → AllAfter key (drop end us) → IsRun k key us start end
  run_found us key start end sorted long is within g l inside behind =
      let there = at_place (slice_get us start) is in
      let u = there.0 in
      let here : at_key key u ≡ Equal = ap (λ n. slice_cmp int_cmp (take n u.row) key) long ∙ ap (λ r. slice_cmp int_cmp r key) (sym there.2) ∙ tied_itself rows_total key in
      let first : (d : Update T) → at_key key (get_or us start d) ≡ Equal = λ d. ap (at_key key) (place_is us start u d there.1) ∙ here in
      let rest = length-drop start us in
      let none_before : NoneBefore key (drop start us) = λ i d h e.
      let at : at_key key (get_or us (start + i) d) ≡ Less = ap (at_key key) (sym (get_or-drop start us i d)) ∙ e in
      let before : is_lt (at_key key (get_or us start d)) ≡ true = parted (by_row_then_time cmp) (λ v. is_lt (at_key key v)) (keeps_before cmp key) us sorted start (start + i) d (omega arith) (omega (arith, h, rest)) (ap is_lt at) in
      true≢false (sym before ∙ ap is_lt (first d)) in
      let still : start - start ≡ 0 = omega arith in
      let nothing : AllBefore key (slice_range us start start) = λ i d h. absurd (let short : length (slice_range us start start) ≡ 0 = ap (λ n. length (take n (drop start us))) still in omega (arith, short, h)) in
      let found : slice_range us start end ≡ filter (begins_with key) (drop start us) = found_is_filter us key start start end (omega arith) g l nothing none_before inside behind in
      let own : IsTrue (list_all (begins_with key) (slice_range us start end)) = ap (list_all (begins_with key)) found ∙ filtered_all (begins_with key) (drop start us) in
      let none : filter (begins_with key) (drop end us) ≡ [] = filtered_none (begins_with key) (drop end us) (λ i d h. begins_not key (get_or (drop end us) i d) (behind i d h)) in
      record {
        some = after key start end u there.1 within g here behind;
        own = subst (λ n. IsTrue (list_all (λ v. same_row (take n v.row) key) (slice_range us start end))) long own;
        last = subst (λ n. filter (λ v. same_row (take n v.row) key) (drop end us) ≡ []) long none;
      }
    where
      begins_not : (key : List ℤ) (v : Update T) → at_key key v ≡ Greater → begins_with key v ≡ false
      begins_not key v e = lists_ties int_cmp (λ x y. refl) (take (length key) v.row) key ∙ ap is_eq e

      after : (key : List ℤ) (start end : ℕ) (u : Update T) → slice_get us start ≡ Some u → start < length us → start ≤ end → at_key key u ≡ Equal → AllAfter key (drop end us) → start < end
      after key start end u there within g here behind = ⊎_elim (λ l. l) (λ l. absurd (same l)) (cases_lt start end)
        where
          same : end ≤ start → ⊥
          same l =
              let long = length-drop end us in
              let zero_behind : at_key key (get_or (drop end us) 0 u) ≡ Greater = behind 0 u (omega (arith, long, within, l, g)) in
              let place : end + 0 ≡ start = omega (arith, l, g) in
              let is_greater : at_key key u ≡ Greater = ap (at_key key) (sym (get_or-drop end us 0 u ∙ ap (λ n. get_or us n u) place ∙ place_is us start u u there)) ∙ zero_behind in
              let bad : true ≡ false = sym (ap is_eq here) ∙ ap is_eq is_greater in
              true≢false bad
