-- A stamp stands for the times that it was made from: the same times are beyond both. No two of its
-- times can be compared, so none occurs twice.
use Rattle.std.proofs.Common.{ℕ, zero, suc, ◌<◌, length, drop, slice_get, IsSomeAnd, arith, ◌≡◌, Bool, true, false, cond, not, ◌||◌, List, [], ◌∷◌, ◌++◌, sym, refl, ap, ap₂, ◌∙◌}
use Rattle.std.specs.List.{filter, list_all}
use Rattle.std.proofs.lemmas.Bool.{and_parts, and_from, or_parts, true≢false, false_from_ne_true}
use Rattle.std.proofs.lemmas.List.Folds.{list_any-append, list_all-append}
use Rattle.lattice.specs.Times.{Times}
use Rattle.lattice.specs.Order.{PartialOrderLaws}
use Rattle.lattice.specs.Frontiers.{is_beyond, all_beyond}
use Rattle.lattice.proofs.FrontierLemmas.{beyond_later, all_beyond_from}
use Rattle.antichain.specs.Antichains.{is_incomparable, is_antichain}
use Rattle.antichain.proofs.InsertionLemmas.{beyond_already}
use Rattle.antichain.proofs.Lists.{all_filter}
use Rattle.update.specs.declared.change.Update.{Update}
use Rattle.histories.specs.Histories.States.{update_times}
use Rattle.histories.specs.Histories.Outstanding.{with_time, with_times, stamp}

or_swap : (a b : Bool) → (a || b) ≡ (b || a)
or_swap true true = refl
or_swap true false = refl
or_swap false true = refl
or_swap false false = refl

or_false : (a : Bool) → (a || false) ≡ a
or_false true = refl
or_false false = refl

or_three : (a b c : Bool) → ((a || b) || c) ≡ (a || (b || c))
or_three true b c = refl
or_three false b c = refl

module _ {T : Type 0} (times : Times T) (o : PartialOrderLaws times) where
  -- if t is not at or before s, dropping the elements beyond t does not change whether s is beyond
  -- the rest
  beyond_left : (t s : T) → times.below t s ≡ false → (F : List T) → is_beyond times (filter (λ f. not (times.below t f)) F) s ≡ is_beyond times F s
  beyond_left t s e [] = refl
  beyond_left t s e (f ∷ F) = step (times.below t f) refl (times.below f s) refl (beyond_left t s e F)
    where
      step : (c : Bool) → times.below t f ≡ c → (d : Bool) → times.below f s ≡ d → is_beyond times (filter (λ f. not (times.below t f)) F) s ≡ is_beyond times F s
          → is_beyond times (cond (not c) (f ∷ filter (λ f. not (times.below t f)) F) (filter (λ f. not (times.below t f)) F)) s ≡ (d || is_beyond times F s)
      step true g true h ih = absurd (true≢false (sym (o.transitive t f s g h) ∙ e))
      step true g false h ih = ih
      step false g d h ih = ap₂ (λ x y. x || y) h ih

  with_time_beyond : (F : List T) (t s : T) → is_beyond times (with_time times F t) s ≡ (is_beyond times F s || times.below t s)
  with_time_beyond F t s = step (is_beyond times F t) refl (times.below t s) refl
    where
      all_true : (b : Bool) → (b || true) ≡ true
      all_true true = refl
      all_true false = refl

      step : (c : Bool) → is_beyond times F t ≡ c → (d : Bool) → times.below t s ≡ d → is_beyond times (cond c F (filter (λ f. not (times.below t f)) F ++ t ∷ [])) s ≡ (is_beyond times F s || d)
      step true g d h = beyond_already o t s F g ∙ (or_swap (times.below t s) (is_beyond times F s) ∙ ap (λ b. is_beyond times F s || b) h)
      step false g true h = list_any-append (λ f. times.below f s) (filter (λ f. not (times.below t f)) F) (t ∷ []) ∙ (ap (λ b. is_beyond times (filter (λ f. not (times.below t f)) F) s || (b || false)) h ∙ (all_true (is_beyond times (filter (λ f. not (times.below t f)) F) s) ∙ sym (all_true (is_beyond times F s))))
      step false g false h = list_any-append (λ f. times.below f s) (filter (λ f. not (times.below t f)) F) (t ∷ []) ∙ ap₂ (λ x y. x || y) (beyond_left t s h F) (or_false (times.below t s) ∙ h)

  -- what is beyond a frontier with times added is what was beyond it, and what is beyond one of
  -- those times
  pub with_times_beyond : (F ts : List T) (s : T) → is_beyond times (with_times times F ts) s ≡ (is_beyond times F s || is_beyond times ts s)
  with_times_beyond F [] s = sym (or_false (is_beyond times F s))
  with_times_beyond F (t ∷ ts) s =
      with_times_beyond (with_time times F t) ts s
      ∙ (ap (λ b. b || is_beyond times ts s) (with_time_beyond F t s)
      ∙ or_three (is_beyond times F s) (times.below t s) (is_beyond times ts s))

  -- the same times are beyond a stamp and beyond the times that it was made from
  pub stamp_beyond : (us : List (Update T)) (s : T) → is_beyond times (stamp times us) s ≡ is_beyond times (update_times us) s
  unfolding stamp
  stamp_beyond us s = with_times_beyond [] (update_times us) s

  -- each of the times is beyond the stamp
  pub stamp_before : (us : List (Update T)) → all_beyond times (stamp times us) (update_times us) ≡ true
  stamp_before us = all_beyond_from o (stamp times us) (update_times us) (λ t h. stamp_beyond us t ∙ h)

  -- if a frontier has passed a time, so have the times that are beyond the frontier
  pub beyond_passed : (F G : List T) (t : T) → all_beyond times F G ≡ true → is_beyond times F t ≡ false → is_beyond times G t ≡ false
  beyond_passed F G t a h = false_from_ne_true (is_beyond times G t) (λ b. true≢false (sym (beyond_later o F G t a b) ∙ h))

  -- A test that all times pass is one that all times of their stamp pass

  all_with_time : (p : T → Bool) (F : List T) (t : T) → list_all p F ≡ true → p t ≡ true → list_all p (with_time times F t) ≡ true
  all_with_time p F t a h = step (is_beyond times F t)
    where
      step : (c : Bool) → list_all p (cond c F (filter (λ f. not (times.below t f)) F ++ t ∷ [])) ≡ true
      step true = a
      step false = list_all-append p (filter (λ f. not (times.below t f)) F) (t ∷ []) ∙ and_from (list_all p (filter (λ f. not (times.below t f)) F)) (list_all p (t ∷ [])) (all_filter p (λ f. not (times.below t f)) F a) (and_from (p t) true h refl)

  all_with_times : (p : T → Bool) (F ts : List T) → list_all p F ≡ true → list_all p ts ≡ true → list_all p (with_times times F ts) ≡ true
  all_with_times p F [] a h = a
  all_with_times p F (t ∷ ts) a h = let g = and_parts (p t) (list_all p ts) h in all_with_times p (with_time times F t) ts (all_with_time p F t a g.0) g.1

  -- a test that all times of a list pass is one that all times of its stamp pass
  pub all_stamp : (p : T → Bool) (us : List (Update T)) → list_all p (update_times us) ≡ true → list_all p (stamp times us) ≡ true
  unfolding stamp
  all_stamp p us h = all_with_times p [] (update_times us) refl h

  -- No two times of a stamp can be compared

  apart_filter : (p : T → Bool) (t : T) (F : List T) → list_all (is_incomparable times t) F ≡ true → list_all (is_incomparable times t) (filter p F) ≡ true
  apart_filter p t [] h = refl
  apart_filter p t (f ∷ F) h = let a = and_parts (is_incomparable times t f) (list_all (is_incomparable times t) F) h in step (p f) a.0 (apart_filter p t F a.1)
    where
      step : (c : Bool) → is_incomparable times t f ≡ true → list_all (is_incomparable times t) (filter p F) ≡ true → list_all (is_incomparable times t) (cond c (f ∷ filter p F) (filter p F)) ≡ true
      step true g ih = and_from (is_incomparable times t f) (list_all (is_incomparable times t) (filter p F)) g ih
      step false g ih = ih

  antichain_filter : (p : T → Bool) (F : List T) → is_antichain times F ≡ true → is_antichain times (filter p F) ≡ true
  antichain_filter p [] h = refl
  antichain_filter p (f ∷ F) h = let a = and_parts (list_all (is_incomparable times f) F) (is_antichain times F) h in step (p f) a.0 (antichain_filter p F a.1)
    where
      step : (c : Bool) → list_all (is_incomparable times f) F ≡ true → is_antichain times (filter p F) ≡ true → is_antichain times (cond c (f ∷ filter p F) (filter p F)) ≡ true
      step true g ih = and_from (list_all (is_incomparable times f) (filter p F)) (is_antichain times (filter p F)) (apart_filter p f F g) ih
      step false g ih = ih

  apart_last : (f t : T) (F : List T) → list_all (is_incomparable times f) F ≡ true → is_incomparable times f t ≡ true → list_all (is_incomparable times f) (F ++ t ∷ []) ≡ true
  apart_last f t [] h e = and_from (is_incomparable times f t) true e refl
  apart_last f t (x ∷ F) h e = let a = and_parts (is_incomparable times f x) (list_all (is_incomparable times f) F) h in and_from (is_incomparable times f x) (list_all (is_incomparable times f) (F ++ t ∷ [])) a.0 (apart_last f t F a.1 e)

  antichain_last : (t : T) (F : List T) → is_antichain times F ≡ true → list_all (λ f. is_incomparable times f t) F ≡ true → is_antichain times (F ++ t ∷ []) ≡ true
  antichain_last t [] h e = refl
  antichain_last t (f ∷ F) h e =
      let a = and_parts (list_all (is_incomparable times f) F) (is_antichain times F) h in
      let b = and_parts (is_incomparable times f t) (list_all (λ f. is_incomparable times f t) F) e in
      and_from (list_all (is_incomparable times f) (F ++ t ∷ [])) (is_antichain times (F ++ t ∷ [])) (apart_last f t F a.0 b.0) (antichain_last t F a.1 b.1)

  -- the elements that stay cannot be compared with the time that comes in
  left_apart : (t : T) (F : List T) → is_beyond times F t ≡ false → list_all (λ f. is_incomparable times f t) (filter (λ f. not (times.below t f)) F) ≡ true
  left_apart t [] h = refl
  left_apart t (f ∷ F) h = let a = or_parts (times.below f t) (is_beyond times F t) h in step (times.below t f) refl a.0 (left_apart t F a.1)
    where
      step : (c : Bool) → times.below t f ≡ c → times.below f t ≡ false → list_all (λ f. is_incomparable times f t) (filter (λ f. not (times.below t f)) F) ≡ true
          → list_all (λ f. is_incomparable times f t) (cond (not c) (f ∷ filter (λ f. not (times.below t f)) F) (filter (λ f. not (times.below t f)) F)) ≡ true
      step true g e ih = ih
      step false g e ih = and_from (is_incomparable times f t) (list_all (λ f. is_incomparable times f t) (filter (λ f. not (times.below t f)) F)) (and_from (not (times.below f t)) (not (times.below t f)) (ap not e) (ap not g)) ih

  with_time_apart : (F : List T) (t : T) → is_antichain times F ≡ true → is_antichain times (with_time times F t) ≡ true
  with_time_apart F t h = step (is_beyond times F t) refl
    where
      step : (c : Bool) → is_beyond times F t ≡ c → is_antichain times (cond c F (filter (λ f. not (times.below t f)) F ++ t ∷ [])) ≡ true
      step true e = h
      step false e = antichain_last t (filter (λ f. not (times.below t f)) F) (antichain_filter (λ f. not (times.below t f)) F h) (left_apart t F e)

  with_times_apart : (F ts : List T) → is_antichain times F ≡ true → is_antichain times (with_times times F ts) ≡ true
  with_times_apart F [] h = h
  with_times_apart F (t ∷ ts) h = with_times_apart (with_time times F t) ts (with_time_apart F t h)

  -- a stamp is an antichain
  pub stamp_apart : (us : List (Update T)) → is_antichain times (stamp times us) ≡ true
  unfolding stamp
  stamp_apart us = with_times_apart [] (update_times us) refl

-- the frontier after a time came in, from the loop's test and the elements that it kept
pub time_in : {T : Type 0} (times : Times T) (old left new : List T) (t : T) (test : Bool) → test ≡ is_beyond times old t → test ≡ false → left ≡ filter (λ f. not (times.below t f)) old → new ≡ left ++ t ∷ [] → new ≡ with_time times old t
time_in times old left new t test e f l n = n ∙ (ap (λ ts. ts ++ t ∷ []) l ∙ ap (λ c. cond c old (filter (λ f. not (times.below t f)) old ++ t ∷ [])) (sym f ∙ e))

-- a time that is beyond a frontier already leaves it as it was
pub time_known : {T : Type 0} (times : Times T) (old : List T) (t : T) (test : Bool) → test ≡ is_beyond times old t → test ≡ true → old ≡ with_time times old t
time_known times old t test e f = ap (λ c. cond c old (filter (λ f. not (times.below t f)) old ++ t ∷ [])) (sym f ∙ e)

module _ {T : Type 0} where
  -- the time of the next update goes into a frontier before those of the rest
  pub stamp_next : (times : Times T) (us : List (Update T)) (i : ℕ) (time : T) (front next all : List T) → i < length us → IsSomeAnd (slice_get us i) (λ u. time ≡ u.time) → next ≡ with_time times front time → with_times times front (update_times (drop i us)) ≡ all → with_times times next (update_times (drop (suc i) us)) ≡ all
  stamp_next times [] i time front next all l s n e = absurd (omega (arith, l))
  stamp_next times (u ∷ us) zero time front next all l s n e =
      ap (λ f. with_times times f (update_times us)) (n ∙ ap (with_time times front) s) ∙ e
  stamp_next times (u ∷ us) (suc i) time front next all l s n e = stamp_next times us i time front next all (omega (arith, l)) s n e
