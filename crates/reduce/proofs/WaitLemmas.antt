-- The places of the histories that have pending times, when a history with pending times is
-- appended or replaces another one.
use Rattle.std.proofs.Common.{◌≡◌, ◌≢◌, ◌↔◌, ℕ, zero, suc, List, [], ◌∷◌, ◌++◌, set, length, slice_get, Some, ◌⊎◌, inl, inr, ⊎_elim, refl, sym, ap, subst, arith}
use Rattle.std.specs.Option.{IsSomeAnd}
use Rattle.std.proofs.lemmas.Option.{none-some}
use Rattle.joined_times.specs.Joined.{Member, AreOnce}
use Rattle.reduce.specs.Histories.{HistoryState, IsWaiting}
use Rattle.reduce.proofs.HistoryLemmas.{at_place}
use Rattle.joined_times.proofs.MemberLemmas.{through, back, in_each, pushed_members, only_one, in_either}

module _ {X : Type 0} where
  -- an element that is not in the list may be appended
  once_pushed : (x : X) (xs : List X) → AreOnce xs → (Member x xs → ⊥) → AreOnce (xs ++ x ∷ [])
  once_pushed x [] once new = ((λ m. m), tt)
  once_pushed x (y ∷ ys) once new = (
    (λ m. ⊎_elim once.0 (λ n. new (inl (sym (only_one y x n)))) (in_either y ys (x ∷ []) m)),
    once_pushed x ys once.1 (λ m. new (inr m)),
  )

module _ {X : Type 0} (P : X → Type 0) where
  -- what an appended element adds to the places of a property
  places_pushed : (xs : List X) (x : X) → P x → (i : ℕ) → IsSomeAnd (slice_get (xs ++ x ∷ []) i) P ↔ (IsSomeAnd (slice_get xs i) P ⊎ (i ≡ length xs))
  places_pushed [] x p zero = ((λ h. inr refl), (λ m. p))
  places_pushed [] x p (suc i) = ((λ h. absurd h), (λ m. ⊎_elim (λ a. a) (λ e. absurd (let f : suc i ≡ 0 = e in omega arith)) m))
  places_pushed (y ∷ ys) x p zero = (
    (λ h. inl h),
    (λ m. ⊎_elim (λ a. a) (λ e. absurd (let f : 0 ≡ suc (length ys) = e in omega arith)) m),
  )
  places_pushed (y ∷ ys) x p (suc i) =
      let ih = places_pushed ys x p i in (
        (λ h. ⊎_elim (λ a. inl a) (λ e. inr (ap suc e)) (ih.0 h)),
        (λ m. ⊎_elim (λ a. ih.1 (inl a)) (λ e. ih.1 (inr (let f : suc i ≡ suc (length ys) = e in omega arith))) m),
      )

  -- what an element that replaces another one adds to them
  places_set : (xs : List X) (i : ℕ) (old new : X) → slice_get xs i ≡ Some old → P new → (j : ℕ) → IsSomeAnd (slice_get (set xs i new) j) P ↔ (IsSomeAnd (slice_get xs j) P ⊎ (j ≡ i))
  places_set [] i old new e p j = absurd (none-some old e)
  places_set (x ∷ xs) zero old new e p zero = ((λ h. inr refl), (λ m. p))
  places_set (x ∷ xs) zero old new e p (suc j) = (
    (λ h. inl h),
    (λ m. ⊎_elim (λ a. a) (λ f. absurd (let g : suc j ≡ 0 = f in omega arith)) m),
  )
  places_set (x ∷ xs) (suc i) old new e p zero = (
    (λ h. inl h),
    (λ m. ⊎_elim (λ a. a) (λ f. absurd (let g : 0 ≡ suc i = f in omega arith)) m),
  )
  places_set (x ∷ xs) (suc i) old new e p (suc j) =
      let ih = places_set xs i old new e p j in (
        (λ h. ⊎_elim (λ a. inl a) (λ f. inr (ap suc f)) (ih.0 h)),
        (λ m. ⊎_elim (λ a. ih.1 (inl a)) (λ f. ih.1 (inr (let g : suc j ≡ suc i = f in omega arith))) m),
      )

  -- there is no element behind the end
  none_behind : (xs : List X) → IsSomeAnd (slice_get xs (length xs)) P → ⊥
  none_behind [] h = h
  none_behind (x ∷ xs) h = none_behind xs h

module _ {T : Type 0} where
  -- the history has pending times
  abbrev IsPending : HistoryState T → Type 0
  IsPending h = h.due ≢ []

  -- a pending history is appended: its place is the number of those before it
  pub waiting_pushed : (hs : List (HistoryState T)) (waiting : List ℕ) (h : HistoryState T) → IsWaiting hs waiting → h.due ≢ [] → IsWaiting (hs ++ h ∷ []) (waiting ++ length hs ∷ [])
  waiting_pushed hs waiting h is pending = record {
    once = once_pushed (length hs) waiting is.once (λ m. none_behind IsPending hs ((is.exact (length hs)).0 m));
    exact = λ i. through (pushed_members i (length hs) waiting) (through (in_each (is.exact i) ((λ e. e), (λ e. e))) (back (places_pushed IsPending hs h pending i)));
  }

  -- it takes the place of one with no pending times, which is to wait from now on
  pub waiting_woken : (hs : List (HistoryState T)) (waiting : List ℕ) (i : ℕ) (new : HistoryState T) → IsWaiting hs waiting → IsSomeAnd (slice_get hs i) (λ h. h.due ≡ []) → new.due ≢ [] → IsWaiting (set hs i new) (waiting ++ i ∷ [])
  waiting_woken hs waiting i new is idle pending =
      let there = at_place (slice_get hs i) idle in
      let absent : IsSomeAnd (slice_get hs i) IsPending → ⊥ = λ p. let q : there.0.due ≢ [] = subst (λ o. IsSomeAnd o IsPending) there.1 p in q there.2 in
      record {
        once = once_pushed i waiting is.once (λ m. absent ((is.exact i).0 m));
        exact = λ j. through (pushed_members j i waiting) (through (in_each (is.exact j) ((λ e. e), (λ e. e))) (back (places_set IsPending hs i there.0 new there.1 pending j)));
      }

  -- it takes the place of one that waits already
  pub waiting_kept : (hs : List (HistoryState T)) (waiting : List ℕ) (i : ℕ) (new : HistoryState T) → IsWaiting hs waiting → IsSomeAnd (slice_get hs i) (λ h. h.due ≢ []) → new.due ≢ [] → IsWaiting (set hs i new) waiting
  waiting_kept hs waiting i new is waits pending =
      let there = at_place (slice_get hs i) waits in
      let has : Member i waiting = (is.exact i).1 waits in
      record {
        once = is.once;
        exact = λ j. let same = places_set IsPending hs i there.0 new there.1 pending j in (
          (λ m. same.1 (inl ((is.exact j).0 m))),
          (λ p. ⊎_elim (λ q. (is.exact j).1 q) (λ e. subst (λ n. Member n waiting) (sym e) has) (same.0 p)),
        );
      }

  -- what holds of an element at a place holds there
  pub holds_there : (P : HistoryState T → Type 0) (hs : List (HistoryState T)) (i : ℕ) (h : HistoryState T) → IsSomeAnd (slice_get hs i) (λ g. h ≡ g) → P h → IsSomeAnd (slice_get hs i) P
  holds_there P hs i h is p =
      let there = at_place (slice_get hs i) is in
      rw there.1 (subst P there.2 p)
