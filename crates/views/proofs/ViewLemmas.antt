-- What a view remembers of its last read, and why a read that goes on from it is right.
use Rattle.std.proofs.Common.{◌≡◌, ℕ, zero, suc, ◌+◌, ◌<◌, ◌≤◌, Bool, true, false, cond, not, ◌||◌, List, [], ◌∷◌, ◌++◌, length, take, drop, take_all, map, refl, sym, ap, ap₂, ◌∙◌, subst, ◌⊎◌, inl, inr, ⊎_elim, add-one, arith}
use Rattle.std.specs.Prelude.{ℤ, ◌+ℤ◌, Option, Some, None, Result, Ok, Err}
use Rattle.std.specs.Option.{IfSome}
use Rattle.std.specs.Result.{OnOk, OnErr}
use Rattle.std.specs.List.{All, AllByRecursion, filter, flat_map, list_any}
use Rattle.std.proofs.lemmas.Bool.{true≢false}
use Rattle.std.proofs.lemmas.Int.{ints}
use Rattle.std.proofs.lemmas.List.{append-nil, map-append, length-append, take-append-le, take-append-drop}
use Rattle.std.proofs.lemmas.List.Concat.{flat_map-append}
use Rattle.std.proofs.lemmas.List.Elements.{filter-append, All-filter, All-from_recursion}
use Rattle.lattice.specs.Times.{Times}
use Rattle.lattice.specs.Order.{PartialOrderLaws}
use Rattle.update.specs.Bags.{Entry, Alike, count_of}
use Rattle.update.specs.Updates.{as_of, entry}
use Rattle.update.specs.declared.change.Update.{Update}
use Rattle.plan.specs.Ancestors.{numbers_below}
use Rattle.views.specs.Views.{update_at, is_later_at, later_below, IsReadOf}
use Rattle.plan.proofs.CountLemmas.{count_of-append}
use Rattle.views.proofs.SumLemmas.{sum_at-append}

or_none : (b : Bool) → (b || false) ≡ b
or_none true = refl
or_none false = refl

module _ {T : Type 0} where
  -- the first updates with one more are those, and what is at the next position
  pub take_position : (us : List (Update T)) (k : ℕ) → take (suc k) us ≡ take k us ++ update_at us k
  take_position [] zero = refl
  take_position [] (suc k) = refl
  take_position (u ∷ us) zero = refl
  take_position (u ∷ us) (suc k) = ap (λ vs. u ∷ vs) (take_position us k)

module _ {T : Type 0} (times : Times T) (t : T) where
  -- whether the update at a position is later is found from its time
  pub later_there : (us : List (Update T)) (k : ℕ) (u : Update T) (b : Bool) → update_at us k ≡ u ∷ [] → times.below u.time t ≡ b → is_later_at times t us k ≡ not b
  later_there us k u b e h = ap (list_any (λ v. not (times.below v.time t))) e ∙ or_none (not (times.below u.time t)) ∙ ap not h

  -- the later positions with one more, by whether its update is later
  pub later_more : (us : List (Update T)) (k : ℕ) (b : Bool) → is_later_at times t us k ≡ b → later_below times t us (k + 1) ≡ later_below times t us k ++ cond b (k ∷ []) []
  later_more us k b h =
      rw add-one (filter-append (is_later_at times t us) (numbers_below k) (k ∷ []) ∙ ap (λ c. later_below times t us k ++ cond c (k ∷ []) []) h)

-- A test that implies another
module _ {X : Type 0} (p q : X → Bool) (weaker : (x : X) → p x ≡ true → q x ≡ true) where
  any_weaker : (xs : List X) → list_any p xs ≡ true → list_any q xs ≡ true
  any_weaker [] h = absurd (true≢false (sym h))
  any_weaker (x ∷ xs) h = step (p x) refl (q x) refl (any_weaker xs) h
    where
      step : (a : Bool) → p x ≡ a → (b : Bool) → q x ≡ b → (list_any p xs ≡ true → list_any q xs ≡ true) → (a || list_any p xs) ≡ true → (b || list_any q xs) ≡ true
      step a e true f rest k = refl
      step true e false f rest k = absurd (true≢false (sym (weaker x e) ∙ f))
      step false e false f rest k = rest k

  -- of the elements that pass the weaker test, those that pass the stronger are all that do
  pub filter_again : (xs : List X) → filter p (filter q xs) ≡ filter p xs
  filter_again [] = refl
  filter_again (x ∷ xs) = step (p x) refl (q x) refl (filter_again xs)
    where
      step : (a : Bool) → p x ≡ a → (b : Bool) → q x ≡ b → filter p (filter q xs) ≡ filter p xs
          → filter p (cond b (x ∷ filter q xs) (filter q xs)) ≡ cond a (x ∷ filter p xs) (filter p xs)
      step true e true f ih = rw e (ap (λ ys. x ∷ ys) ih)
      step false e true f ih = rw e ih
      step true e false f ih = absurd (true≢false (sym (weaker x e) ∙ f))
      step false e false f ih = ih

-- the numbers below n are below any m from n on
small_numbers : (n m : ℕ) → n ≤ m → AllByRecursion (λ k. k < m) (numbers_below n)
small_numbers zero m l = tt
small_numbers (suc n) m l = all_both (numbers_below n) (small_numbers n m (omega (arith, l))) (omega (arith, l))
  where
    all_both : (ks : List ℕ) → AllByRecursion (λ k. k < m) ks → n < m → AllByRecursion (λ k. k < m) (ks ++ n ∷ [])
    all_both [] a h = (h, tt)
    all_both (k ∷ ks) a h = (a.0, all_both ks a.1 h)

-- two tests that agree below n keep the same numbers
same_below : (p q : ℕ → Bool) (n : ℕ) → ((k : ℕ) → k < n → p k ≡ q k) → filter p (numbers_below n) ≡ filter q (numbers_below n)
same_below p q zero h = refl
same_below p q (suc n) h =
    filter-append p (numbers_below n) (n ∷ [])
    ∙ ap₂ (λ ks b. ks ++ cond b (n ∷ []) []) (same_below p q n (λ k l. h k (omega (arith, l)))) (h n (omega arith))
    ∙ sym (filter-append q (numbers_below n) (n ∷ []))

module _ {T : Type 0} where
  -- appending updates leaves the earlier positions as they were
  update_before : (us more : List (Update T)) (k : ℕ) → k < length us → update_at (us ++ more) k ≡ update_at us k
  update_before [] more k l = absurd (omega (arith, l))
  update_before (u ∷ us) more zero l = refl
  update_before (u ∷ us) more (suc k) l = update_before us more k (omega (arith, l))

  one_or_none : (us : List (Update T)) (k : ℕ) → (update_at us k ≡ []) ⊎ ((u : Update T) × (update_at us k ≡ u ∷ []))
  one_or_none [] zero = inl refl
  one_or_none [] (suc k) = inl refl
  one_or_none (u ∷ us) zero = inr (u, refl)
  one_or_none (u ∷ us) (suc k) = one_or_none us k

module _ {T : Type 0} (times : Times T) where
  -- the positions that a read keeps are those of captured updates
  pub later_within : (us : List (Update T)) (t : T) (bag : List Entry) (n : ℕ) (ks : List ℕ) → IsReadOf times us t bag n ks → All (λ k. k < length us) ks
  later_within us t bag n ks r =
      subst (All (λ k. k < length us)) (sym r.rest)
      (All-filter (is_later_at times t us) (λ k. k < length us) (numbers_below n) (All-from_recursion (λ k. k < length us) (numbers_below n) (small_numbers n (length us) r.within)))

  -- a read stays right after more updates are captured
  pub read_appended : (us more : List (Update T)) (t : T) (bag : List Entry) (n : ℕ) (ks : List ℕ) → IsReadOf times us t bag n ks → IsReadOf times (us ++ more) t bag n ks
  read_appended us more t bag n ks r = record {
    within = let l = r.within in omega (arith, l, length-append us more);
    sum = λ row. r.sum row ∙ ap (λ vs. count_of (as_of times t vs) row) (sym (take-append-le n us more r.within));
    rest = r.rest ∙ same_below (is_later_at times t us) (is_later_at times t (us ++ more)) n (λ k l. ap (list_any (λ u. not (times.below u.time t))) (sym (update_before us more k (let m = r.within in omega (arith, l, m)))));
  }

  -- what a view remembers stays right whether or not a capture was refused
  pub still_remembered : {V E L : Type 0} (r : Result V E) (last : Option L) (time : L → T) (bag : L → List Entry) (n : L → ℕ) (ks : L → List ℕ) (old new more : List (Update T))
      → OnOk r (new ≡ old ++ more) → OnErr r (new ≡ old) → IfSome last (λ x. IsReadOf times old (time x) (bag x) (n x) (ks x)) → IfSome last (λ x. IsReadOf times new (time x) (bag x) (n x) (ks x))
  still_remembered r None time bag n ks old new more h k a = tt
  still_remembered (Ok v) (Some x) time bag n ks old new more h k a = subst (λ us. IsReadOf times us (time x) (bag x) (n x) (ks x)) (sym h) (read_appended old more (time x) (bag x) (n x) (ks x) a)
  still_remembered (Err e) (Some x) time bag n ks old new more h k a = subst (λ us. IsReadOf times us (time x) (bag x) (n x) (ks x)) (sym k) a

  -- a read that knows all captured updates
  pub read_of_all : (us : List (Update T)) (t : T) (bag : List Entry) (ks : List ℕ) → Alike bag (as_of times t us) → ks ≡ later_below times t us (length us) → IsReadOf times us t bag (length us) ks
  read_of_all us t bag ks same e = record {
    within = omega arith;
    sum = λ row. same row ∙ ap (λ vs. count_of (as_of times t vs) row) (sym (take_all (length us) us (omega arith)));
    rest = e;
  }

  module _ (o : PartialOrderLaws times) (s t : T) (onward : times.below s t ≡ true) where
    -- an update that is not at or before the later time is not at or before the earlier one
    still : (u : Update T) → not (times.below u.time t) ≡ true → not (times.below u.time s) ≡ true
    still u h = step (times.below u.time s) refl
      where
        step : (b : Bool) → times.below u.time s ≡ b → not b ≡ true
        step true e = absurd (true≢false (sym h ∙ ap not (o.transitive u.time s t e onward)))
        step false e = refl

    -- the later positions of a read that goes on are among those of the earlier read
    pub later_again : (us : List (Update T)) (n : ℕ) → filter (is_later_at times t us) (later_below times s us n) ≡ later_below times t us n
    later_again us n =
        filter_again (is_later_at times t us) (is_later_at times s us)
        (λ k. any_weaker (λ u. not (times.below u.time t)) (λ u. not (times.below u.time s)) still (update_at us k)) (numbers_below n)

    abbrev arrived : List (Update T) → List (Update T)
    arrived us = filter (λ u. times.below u.time t) us

    abbrev unknown : List (Update T) → List (Update T)
    unknown us = filter (λ u. not (times.below u.time s)) us

    -- the update that comes in from one position
    come_in : (us : List (Update T)) (n : ℕ) → flat_map (λ k. arrived (update_at us k)) (cond (is_later_at times s us n) (n ∷ []) []) ≡ arrived (unknown (update_at us n))
    come_in us n = ⊎_elim
        (λ e. rw e refl)
        (λ one. step one.0 one.1 (not (times.below one.0.time s)) refl)
        (one_or_none us n)
      where
        step : (u : Update T) → update_at us n ≡ u ∷ [] → (b : Bool) → not (times.below u.time s) ≡ b → flat_map (λ k. arrived (update_at us k)) (cond (is_later_at times s us n) (n ∷ []) []) ≡ arrived (unknown (update_at us n))
        step u e true h =
            ap (λ b. flat_map (λ k. arrived (update_at us k)) (cond b (n ∷ []) [])) (ap (list_any (λ v. not (times.below v.time s))) e ∙ or_none (not (times.below u.time s)) ∙ h)
            ∙ append-nil (arrived (update_at us n))
            ∙ ap arrived e
            ∙ ap (λ b. arrived (cond b (u ∷ []) [])) (sym h)
            ∙ ap (λ vs. arrived (unknown vs)) (sym e)
        step u e false h =
            ap (λ b. flat_map (λ k. arrived (update_at us k)) (cond b (n ∷ []) [])) (ap (list_any (λ v. not (times.below v.time s))) e ∙ or_none (not (times.below u.time s)) ∙ h)
            ∙ ap (λ b. arrived (cond b (u ∷ []) [])) (sym h)
            ∙ ap (λ vs. arrived (unknown vs)) (sym e)

    -- the updates that come in from the positions of a read
    pub all_come_in : (us : List (Update T)) (n : ℕ) → flat_map (λ k. arrived (update_at us k)) (later_below times s us n) ≡ arrived (unknown (take n us))
    all_come_in us zero = refl
    all_come_in us (suc n) =
        ap (flat_map (λ k. arrived (update_at us k))) (filter-append (is_later_at times s us) (numbers_below n) (n ∷ []))
        ∙ flat_map-append (λ k. arrived (update_at us k)) (later_below times s us n) (cond (is_later_at times s us n) (n ∷ []) [])
        ∙ ap₂ (λ xs ys. xs ++ ys) (all_come_in us n) (come_in us n)
        ∙ sym (filter-append (λ u. times.below u.time t) (unknown (take n us)) (unknown (update_at us n)))
        ∙ ap arrived (sym (filter-append (λ u. not (times.below u.time s)) (take n us) (update_at us n)))
        ∙ ap (λ vs. arrived (unknown vs)) (sym (take_position us n))

    -- the sum at the earlier time, and what comes in, are the sum at the later time
    both_parts : (us : List (Update T)) (row : List ℤ) → count_of (as_of times s us) row +ℤ count_of (map entry (arrived (unknown us))) row ≡ count_of (as_of times t us) row
    both_parts [] row = refl
    both_parts (u ∷ us) row = step (times.below u.time s) refl (times.below u.time t) refl (both_parts us row)
      where
        step : (a : Bool) → times.below u.time s ≡ a → (b : Bool) → times.below u.time t ≡ b
            → count_of (as_of times s us) row +ℤ count_of (map entry (arrived (unknown us))) row ≡ count_of (as_of times t us) row
            → count_of (map entry (cond a (u ∷ filter (λ v. times.below v.time s) us) (filter (λ v. times.below v.time s) us))) row +ℤ count_of (map entry (arrived (cond (not a) (u ∷ unknown us) (unknown us)))) row
            ≡ count_of (map entry (cond b (u ∷ arrived us) (arrived us))) row
        step true e true f ih = omega (arith, ints, ih)
        step true e false f ih = absurd (true≢false (sym (o.transitive u.time s t e onward) ∙ f))
        step false e true f ih = rw f (omega (arith, ints, ih))
        step false e false f ih = rw f ih

    each_sum : (us : List (Update T)) (ks : List ℕ) → flat_map (λ k. as_of times t (update_at us k)) ks ≡ map entry (flat_map (λ k. arrived (update_at us k)) ks)
    each_sum us [] = refl
    each_sum us (k ∷ ks) = ap (λ es. as_of times t (update_at us k) ++ es) (each_sum us ks) ∙ sym (map-append entry (arrived (update_at us k)) (flat_map (λ j. arrived (update_at us j)) ks))

    -- the bag of the earlier read, with all that came in, is the sum at the later time
    pub read_onward : (us : List (Update T)) (came bag : List Entry) (n : ℕ) (ks : List ℕ) → IsReadOf times us s bag n ks
        → Alike came (flat_map (λ k. as_of times t (update_at us k)) ks ++ as_of times t (drop n us)) → Alike (bag ++ came) (as_of times t us)
    read_onward us came bag n ks r e row =
        let known = each_sum us ks ∙ ap (map entry) (ap (flat_map (λ k. arrived (update_at us k))) r.rest ∙ all_come_in us n) in
        let split = count_of-append bag came row in
        let parts = e row ∙ ap (λ es. count_of (es ++ as_of times t (drop n us)) row) known ∙ count_of-append (map entry (arrived (unknown (take n us)))) (as_of times t (drop n us)) row in
        let first = both_parts (take n us) row in
        let same = r.sum row in
        let whole = ap (λ vs. count_of (as_of times t vs) row) (sym (take-append-drop n us)) ∙ sum_at-append times t (take n us) (drop n us) row in
        omega (arith, ints, split, parts, first, same, whole)
