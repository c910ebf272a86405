-- Reading what a view captured: the update at a position, and the copies of those that are at or
-- before a time.
use Rattle.std.proofs.Common.{slice_set, ◌-◌, ℤ, pos, ◌+ℤ◌, Option, None, IsTrue, ap₂, append-nil, ◌≡◌, ℕ, zero, suc, ◌+◌, ◌<◌, ◌≤◌, Bool, true, false, cond, not, List, [], ◌∷◌, ◌++◌, length, take, drop, get_or, slice_get, Some, IsSomeAnd, map, refl, sym, ap, ◌∙◌, subst, add-one, length-take-le, take_all, arith}
use Rattle.std.specs.List.{filter, flat_map, remove}
use Rattle.std.proofs.lemmas.Int.{ints}
use Rattle.std.proofs.lemmas.Option.{slice_get_within}
use Rattle.std.proofs.lemmas.List.{length-append, map-append, drop-append-le, take-append-drop}
use Rattle.std.proofs.lemmas.List.Concat.{flat_map-append}
use Rattle.std.proofs.lemmas.List.Elements.{filter-append}
use Rattle.update.specs.Bags.{Entry, Alike, count_of, entry_of, same_row}
use Rattle.update.specs.Updates.{as_of, entry}
use Rattle.update.specs.declared.change.Update.{Update}
use Rattle.plan.specs.Ancestors.{numbers_below}
use Rattle.plan.proofs.CountLemmas.{count_of-append, row_same}
use Rattle.views.specs.Views.{update_at, is_later_at, later_below, IsReadOf}
use Rattle.views.proofs.ViewLemmas.{take_position, later_there}
use Rattle.views.proofs.SumLemmas.{sum_at-append}
use Rattle.lattice.specs.Times.{Times}

out : {X : Type 0} → Option X → X → X
out (Some x) d = x
out None d = d

-- equal options have equal values
pub some_same : {X : Type 0} (x y : X) → Some x ≡ Some y → x ≡ y
unfolding out
some_same x y e = ap (λ o. out o x) e

both : (b : Bool) (m n s : ℤ) → s ≡ m +ℤ n → cond b s (pos 0) ≡ cond b m (pos 0) +ℤ cond b n (pos 0)
both true m n s e = e
both false m n s e = refl

-- no number counts for no row
pub none_count : (own row : List ℤ) → pos 0 ≡ cond (same_row own row) (pos 0) (pos 0)
none_count own row = same (same_row own row)
  where
    same : (b : Bool) → pos 0 ≡ cond b (pos 0) (pos 0)
    same true = refl
    same false = refl

module _ {T : Type 0} where
  -- at a position before the end there is one update
  pub found_at : (us : List (Update T)) (k : ℕ) → k < length us → (u : Update T) × (update_at us k ≡ u ∷ []) × (slice_get us k ≡ Some u) × (u ≡ get_or us k u)
  found_at [] k l = absurd (omega (arith, l))
  found_at (u ∷ us) zero l = (u, refl, refl, refl)
  found_at (u ∷ us) (suc k) l = found_at us k (omega (arith, l))

  -- what an update and a difference sum to takes the place of the update
  pub sum_put : (us : List (Update T)) (k : ℕ) (x y : Update T) (diff : ℤ) → slice_get us k ≡ Some x → y.row ≡ x.row → y.diff ≡ x.diff +ℤ diff → Alike (map entry (slice_set us k y)) (map entry us ++ entry_of x.row diff ∷ [])
  sum_put [] k x y diff at own sum row = absurd (omega (arith, slice_get_within [] k x at))
  sum_put (u ∷ us) zero x y diff at own sum row =
      let it = some_same u x at in
      let new = ap (λ r. cond (same_row r row) y.diff (pos 0)) own in
      let old = ap (λ v. cond (same_row v.row row) v.diff (pos 0)) it in
      let more = count_of-append (map entry us) (entry_of x.row diff ∷ []) row in
      let parts = both (same_row x.row row) x.diff diff y.diff sum in
      omega (arith, ints, new, old, more, parts)
  sum_put (u ∷ us) (suc k) x y diff at own sum row =
      let rest = sum_put us k x y diff at own sum row in
      omega (arith, ints, rest)

  -- if they sum to nothing, then the update goes
  sum_gone : (us : List (Update T)) (k : ℕ) (x : Update T) (diff : ℤ) → slice_get us k ≡ Some x → pos 0 ≡ x.diff +ℤ diff → Alike (map entry (remove us k)) (map entry us ++ entry_of x.row diff ∷ [])
  sum_gone [] k x diff at sum row = absurd (omega (arith, slice_get_within [] k x at))
  sum_gone (u ∷ us) zero x diff at sum row =
      let old = ap (λ v. cond (same_row v.row row) v.diff (pos 0)) (some_same u x at) in
      let more = count_of-append (map entry us) (entry_of x.row diff ∷ []) row in
      let parts = both (same_row x.row row) x.diff diff (pos 0) sum in
      let none = none_count x.row row in
      omega (arith, ints, old, more, parts, none)
  sum_gone (u ∷ us) (suc k) x diff at sum row =
      let rest = sum_gone us k x diff at sum row in
      omega (arith, ints, rest)

  pub sum_went : (us new : List (Update T)) (k : ℕ) (x : Update T) (diff : ℤ) → new ≡ remove us k → slice_get us k ≡ Some x → pos 0 ≡ x.diff +ℤ diff → Alike (map entry new) (map entry us ++ entry_of x.row diff ∷ [])
  sum_went us new k x diff e at sum row = rw e (sum_gone us k x diff at sum row)

  -- rows that compare as equal are equal
  pub same_rows : (o : Option (Update T)) (b : Bool) (row : List ℤ) → IsSomeAnd o (λ u. b ≡ same_row u.row row) → IsTrue b → IsSomeAnd o (λ u. u.row ≡ row)
  same_rows None b row e h = e
  same_rows (Some u) b row e h = row_same u.row row (sym e ∙ h)

  -- an update of a row and a difference, in another form
  pub of_row : (o : Option (Update T)) (row : List ℤ) (diff : ℤ) (xs ys : List Entry) → IsSomeAnd o (λ u. u.row ≡ row) → IsSomeAnd o (λ u. diff ≡ u.diff) → Alike xs (ys ++ entry_of row diff ∷ []) → IsSomeAnd o (λ u. Alike xs (ys ++ entry u ∷ []))
  of_row None row diff xs ys own its same = own
  of_row (Some u) row diff xs ys own its same = λ r. same r ∙ ap₂ (λ w d. count_of (ys ++ entry_of w d ∷ []) r) (sym own) its

  -- what holds of the last one, of whichever it is
  pub of_last : (o : Option (Update T)) {P : Update T → Type 0} {Q : Type 0} → IsSomeAnd o P → ((u : Update T) → o ≡ Some u → P u → Q) → Q
  of_last None p f = absurd p
  of_last (Some u) p f = f u refl p

-- what is like one of two parts takes its place
pub alike_before : (xs ys more all : List Entry) → Alike xs ys → Alike all (xs ++ more) → Alike all (ys ++ more)
alike_before xs ys more all h e row =
    let one = count_of-append xs more row in
    let other = count_of-append ys more row in
    let same = h row in
    e row ∙ omega (arith, ints, one, other, same)

pub alike_behind : (xs ys more all : List Entry) → Alike xs ys → Alike all (more ++ xs) → Alike all (more ++ ys)
alike_behind xs ys more all h e row =
    let one = count_of-append more xs row in
    let other = count_of-append more ys row in
    let same = h row in
    e row ∙ omega (arith, ints, one, other, same)

module _ {T : Type 0} (times : Times T) (t : T) where
  -- what is added up, with one more position
  pub sums_more : (us : List (Update T)) (n k : ℕ) (old mid new : List Entry) → n ≤ k → k < length us → Alike mid (old ++ as_of times t (drop n (take k us))) → Alike new (mid ++ as_of times t (update_at us k))
      → Alike new (old ++ as_of times t (drop n (take (k + 1) us)))
  sums_more us n k old mid new l h m e row =
      let long = length-take-le k us (omega (arith, h)) in
      let more : take (k + 1) us ≡ take k us ++ update_at us k = rw add-one (take_position us k) in
      let part : drop n (take (k + 1) us) ≡ drop n (take k us) ++ update_at us k = ap (drop n) more ∙ drop-append-le n (take k us) (update_at us k) (omega (arith, l, long)) in
      let whole = ap (λ vs. count_of (as_of times t vs) row) part ∙ sum_at-append times t (drop n (take k us)) (update_at us k) row in
      let before = m row ∙ count_of-append old (as_of times t (drop n (take k us))) row in
      let now = e row ∙ count_of-append mid (as_of times t (update_at us k)) row in
      let then = count_of-append old (as_of times t (drop n (take (k + 1) us))) row in
      omega (arith, ints, whole, before, now, then)

  -- all that came in, added to what counts nothing, is the sum
  pub all_came : (us : List (Update T)) (none old new : List Entry) (n : ℕ) → n ≡ length us → Alike none [] → old ≡ [] → Alike new (old ++ as_of times t (drop 0 (take n us))) → Alike (none ++ new) (as_of times t us)
  all_came us none old new n e z o h row =
      let both = count_of-append none new row in
      let nothing = z row in
      let came = h row ∙ ap (λ es. count_of (es ++ as_of times t (take n us)) row) o ∙ ap (λ vs. count_of (as_of times t vs) row) (ap (λ k. take k us) e ∙ take_all (length us) us (omega arith)) in
      omega (arith, ints, both, nothing, came)

  -- what is added up at some positions, with one more
  pub sums_of_more : (us : List (Update T)) (ks : List ℕ) (k : ℕ) (mid new : List Entry) → Alike mid (flat_map (λ j. as_of times t (update_at us j)) ks) → Alike new (mid ++ as_of times t (update_at us k))
      → Alike new (flat_map (λ j. as_of times t (update_at us j)) (ks ++ k ∷ []))
  sums_of_more us ks k mid new m e row =
      let here = as_of times t (update_at us k) in
      let all = flat_map-append (λ j. as_of times t (update_at us j)) ks (k ∷ []) ∙ ap (λ es. flat_map (λ j. as_of times t (update_at us j)) ks ++ es) (append-nil here) in
      alike_before mid (flat_map (λ j. as_of times t (update_at us j)) ks) here new m e row ∙ ap (λ es. count_of es row) (sym all)

module _ {T : Type 0} (times : Times T) (t : T) (us : List (Update T)) (k : ℕ) (l : k < length us) (s : T) (time : IsSomeAnd (slice_get us k) (λ u. s ≡ u.time)) (b : Bool) (test : b ≡ times.below s t) where
  abbrev here : (u : Update T) × (update_at us k ≡ u ∷ []) × (slice_get us k ≡ Some u) × (u ≡ get_or us k u)
  here = found_at us k l

  tested : times.below here.0.time t ≡ b
  tested = sym (test ∙ ap (λ x. times.below x t) (subst (λ o. IsSomeAnd o (λ u. s ≡ u.time)) here.2 time))

  -- whether an update is later is found from its time
  pub later_found : not b ≡ is_later_at times t us k
  later_found = sym (later_there times t us k here.0 b here.1 tested)

  -- if it is, then nothing is added up
  pub no_copy : b ≡ false → as_of times t (update_at us k) ≡ []
  no_copy e = ap (as_of times t) here.1 ∙ ap (λ c. map entry (cond c (here.0 ∷ []) [])) (tested ∙ e)

  -- if it is not, then the update is
  pub added_one : b ≡ true → (xs ys : List Entry) → IsSomeAnd (slice_get us k) (λ u. Alike xs (ys ++ entry u ∷ [])) → Alike xs (ys ++ as_of times t (update_at us k))
  added_one e xs ys same row =
      let found = ap (as_of times t) here.1 ∙ ap (λ c. map entry (cond c (here.0 ∷ []) [])) (tested ∙ e) in
      subst (λ o. IsSomeAnd o (λ u. Alike xs (ys ++ entry u ∷ []))) here.2 same row ∙ ap (λ es. count_of (ys ++ es) row) (sym found)

  -- so is a copy of it
  pub added_copy : b ≡ true → (old new : List (Update T)) (copy : Update T) → new ≡ old ++ copy ∷ [] → IsSomeAnd (slice_get us k) (λ u. copy ≡ u) → Alike (map entry new) (map entry old ++ as_of times t (update_at us k))
  added_copy e old new copy pushed same row =
      let found = ap (as_of times t) here.1 ∙ ap (λ c. map entry (cond c (here.0 ∷ []) [])) (tested ∙ e) in
      let own = subst (λ o. IsSomeAnd o (λ u. copy ≡ u)) here.2 same in
      ap (λ us. count_of us row) (ap (map entry) pushed ∙ map-append entry old (copy ∷ []) ∙ ap (λ u. map entry old ++ entry u ∷ []) own ∙ ap (λ es. map entry old ++ es) (sym found))

module _ {T : Type 0} (times : Times T) (t : T) where
  one_few : (b : Bool) (k : ℕ) → length (cond b (k ∷ []) []) ≤ 1
  one_few true k = omega arith
  one_few false k = omega arith

  -- no more updates are later than there are
  pub later_few : (us : List (Update T)) (n : ℕ) → length (later_below times t us n) ≤ n
  later_few us zero = omega arith
  later_few us (suc n) =
      let few = later_few us n in
      let one = one_few (is_later_at times t us n) n in
      let more = ap length (filter-append (is_later_at times t us) (numbers_below n) (n ∷ [])) ∙ length-append (later_below times t us n) (cond (is_later_at times t us n) (n ∷ []) []) in
      omega (arith, few, one, more)

take_twice : {X : Type 0} (n m : ℕ) (xs : List X) → n ≤ m → take n (take m xs) ≡ take n xs
take_twice zero m xs l = refl
take_twice (suc n) zero xs l = absurd (omega (arith, l))
take_twice (suc n) (suc m) [] l = refl
take_twice (suc n) (suc m) (x ∷ xs) l = ap (λ ys. x ∷ ys) (take_twice n m xs (omega (arith, l)))

module _ {T : Type 0} (times : Times T) (t : T) (us : List (Update T)) where
  -- a read goes on by a part: what came in by then is added to its bag
  pub read_of_part : (bag more : List Entry) (n m : ℕ) (ks js : List ℕ) → IsReadOf times us t bag n ks → n ≤ m → m ≤ length us → Alike more (bag ++ map entry (filter (λ u. times.below u.time t) (drop n (take m us)))) → js ≡ later_below times t us m → IsReadOf times us t more m js
  read_of_part bag more n m ks js read onward within sum later = record {
    within = within;
    sum = λ row.
        let part = drop n (take m us) in
        let was = read.sum row in
        let split = count_of-append bag (map entry (filter (λ u. times.below u.time t) part)) row in
        let whole = sum_at-append times t (take n us) part row in
        let same = ap (λ vs. count_of (as_of times t (vs ++ part)) row) (sym (take_twice n m us onward)) ∙ ap (λ vs. count_of (as_of times t vs) row) (take-append-drop n (take m us)) in
        sum row ∙ split ∙ omega (arith, ints, was, whole, same);
    rest = later;
  }
