-- The holds of an arrangement are those of its spine, in some order, while they come, move and go.
use Rattle.std.proofs.Common.{◌≡◌, ℕ, zero, suc, ◌+◌, ◌≤◌, ◌<◌, Bool, true, false, cond, ◌↔◌, List, [], ◌∷◌, ◌++◌, set, slice_get, Some, IsTrue, length, refl, sym, ◌∙◌, ap, ⊎_elim, arith, ◌||◌, None}
use Rattle.std.specs.List.{All, Contains, count_by, list_any, remove}
use Rattle.std.specs.Cmp.Lexicographic.{pointwise}
use Rattle.std.proofs.lemmas.Bool.{or_cases, or_left, or_right, true≢false}
use Rattle.std.proofs.lemmas.List.Elements.{All-head}
use Rattle.std.proofs.lemmas.Option.{same_Some}
use Rattle.std.proofs.lemmas.List.Folds.{list_any_none, list_any-append}
use Rattle.lattice.proofs.BoundLemmas.{same_test}
use Rattle.std.proofs.lemmas.List.Sums.{sum_by-cons, sum_by_push}
use Rattle.trace.specs.Holds.{HoldState}
use Rattle.trace.proofs.BoundaryLemmas.{some_same, none_some}
use Rattle.spine.specs.HoldRules.{AreSameHolds, IsMoved}
use Rattle.spine.proofs.HoldersLemmas.{hold_found, hold_moved}

module _ {X : Type 0} (p : X → Bool) where
  abbrev one : X → ℕ
  one x = cond (p x) 1 0

  count-cons : (x : X) (xs : List X) → count_by p (x ∷ xs) ≡ one x + count_by p xs
  count-cons x xs = sum_by-cons one x xs

  count_set : (xs : List X) (i : ℕ) (from to : X) → slice_get xs i ≡ Some from → count_by p (set xs i to) + one from ≡ count_by p xs + one to
  count_set [] i from to e = absurd (none_some e)
  count_set (x ∷ xs) zero from to e =
      let before = count-cons x xs in
      let after = count-cons to xs in
      let same = ap one (some_same e) in
      omega (arith, before, after, same)
  count_set (x ∷ xs) (suc i) from to e =
      let before = count-cons x xs in
      let after = count-cons x (set xs i to) in
      let rest = count_set xs i from to e in
      omega (arith, before, after, rest)

  count_remove : (xs : List X) (i : ℕ) (x : X) → slice_get xs i ≡ Some x → count_by p (remove xs i) + one x ≡ count_by p xs
  count_remove [] i x e = absurd (none_some e)
  count_remove (y ∷ xs) zero x e =
      let before = count-cons y xs in
      let same = ap one (some_same e) in
      omega (arith, before, same)
  count_remove (y ∷ xs) (suc i) x e =
      let before = count-cons y xs in
      let after = count-cons y (remove xs i) in
      let rest = count_remove xs i x e in
      omega (arith, before, after, rest)

  -- what passes is counted
  count_at : (xs : List X) (i : ℕ) (x : X) → slice_get xs i ≡ Some x → IsTrue (p x) → 1 ≤ count_by p xs
  count_at xs i x e h =
      let rest = count_remove xs i x e in
      let here = ap {B = ℕ} (λ b. cond b 1 0) h in
      omega (arith, rest, here)

  -- what is counted passes
  any_counted : (xs : List X) → 1 ≤ count_by p xs → IsTrue (list_any p xs)
  any_counted [] more = let none : ⊥ = omega (arith, more) in absurd none
  any_counted (x ∷ xs) more = by (p x) refl (any_counted xs)
    where
      by : (b : Bool) → p x ≡ b → (1 ≤ count_by p xs → IsTrue (list_any p xs)) → IsTrue (list_any p (x ∷ xs))
      by true e rest = or_left (p x) (list_any p xs) e
      by false e rest =
          let none = ap {B = ℕ} (λ b. cond b 1 0) e in
          let whole = count-cons x xs in
          or_right (p x) (list_any p xs) (rest (omega (arith, more, whole, none)))

  -- and the other way round
  counted_any : (xs : List X) → IsTrue (list_any p xs) → 1 ≤ count_by p xs
  counted_any [] h = absurd (true≢false (sym h))
  counted_any (x ∷ xs) h =
      let whole = count-cons x xs in
      ⊎_elim
      (λ e. let here = ap {B = ℕ} (λ b. cond b 1 0) e in omega (arith, whole, here))
      (λ k. let rest = counted_any xs k in omega (arith, whole, rest))
      (or_cases (p x) (list_any p xs) h)

  -- if a test has one answer for all of a list
  any_one : (q : Bool) (xs : List X) → 0 < length xs → All (λ x. p x ≡ q) xs → list_any p xs ≡ q
  any_one q [] some all = absurd (omega (arith, some))
  any_one true (x ∷ xs) some all = or_left (p x) (list_any p xs) (All-head (λ y. p y ≡ true) x xs all)
  any_one false (x ∷ xs) some all = list_any_none p (x ∷ xs) all

-- what adds nothing to a disjunction
pub or_false : (b : Bool) → (b || false) ≡ b
or_false true = refl
or_false false = refl

or_within : (a b : Bool) → (IsTrue b → IsTrue a) → (a || b) ≡ a
or_within true b h = refl
or_within false true h = sym (h refl)
or_within false false h = refl

-- a list has an element that passes if one is at some place
pub any_at : {X : Type 0} (p : X → Bool) (xs : List X) (i : ℕ) (x : X) → slice_get xs i ≡ Some x → IsTrue (p x) → IsTrue (list_any p xs)
any_at p [] i x e h = absurd (nothing x e)
  where
    nothing : {X : Type 0} (x : X) → None ≡ Some x → ⊥
    nothing x z = cc
any_at p (y ∷ xs) zero x e h = or_left (p y) (list_any p xs) (ap p (same_Some y x e) ∙ h)
any_at p (y ∷ xs) (suc i) x e h = or_right (p y) (list_any p xs) (any_at p xs i x e h)

module _ {T : Type 0} where
  -- a test passes one of the holds if and only if it passes one of the spine's
  pub any_same : (p : HoldState T → Bool) (own holds : List (HoldState T)) → AreSameHolds own holds → list_any p own ≡ list_any p holds
  any_same p own holds all =
      let same = all.counts p in
      same_test (list_any p own) (list_any p holds)
      (λ h. let n = counted_any p own h in any_counted p holds (omega (arith, n, same)))
      (λ h. let n = counted_any p holds h in any_counted p own (omega (arith, n, same)))

  -- one more element changes no test that it passes only if another one does
  pub any_push : (p : HoldState T → Bool) (hs : List (HoldState T)) (h : HoldState T) → (IsTrue (p h) → IsTrue (list_any p hs)) → list_any p (hs ++ h ∷ []) ≡ list_any p hs
  any_push p hs h with_it = list_any-append p hs (h ∷ []) ∙ (ap (λ b. list_any p hs || b) (or_false (p h)) ∙ or_within (list_any p hs) (p h) with_it)

  -- the last hold may be seen as the first
  pub last_first : (hold : HoldState T) (others holds : List (HoldState T)) → AreSameHolds (others ++ hold ∷ []) holds → AreSameHolds (hold ∷ others) holds
  last_first hold others holds all = record {
    counts = λ p.
        let before = all.counts p in
        let first = count-cons p hold others in
        let last = sum_by_push (one p) others hold in
        omega (arith, before, first, last);
  }

  -- and the first as the last
  pub first_last : (hold : HoldState T) (others holds : List (HoldState T)) → AreSameHolds (hold ∷ others) holds → AreSameHolds (others ++ hold ∷ []) holds
  first_last hold others holds all = record {
    counts = λ p.
        let before = all.counts p in
        let first = count-cons p hold others in
        let last = sum_by_push (one p) others hold in
        omega (arith, before, first, last);
  }

  -- if one of the holds passes a test, then so does one of the spine's
  pub some_passes : (p : HoldState T → Bool) (own holds : List (HoldState T)) (i : ℕ) (h : HoldState T) → AreSameHolds own holds → slice_get own i ≡ Some h → IsTrue (p h) → IsTrue (list_any p holds)
  some_passes p own holds i h all e passes =
      let mine = count_at p own i h e passes in
      let same = all.counts p in
      any_counted p holds (omega (arith, mine, same))

  -- each one may be seen as the first
  picked : (own holds : List (HoldState T)) (i : ℕ) (h : HoldState T) → slice_get own i ≡ Some h → AreSameHolds own holds → AreSameHolds (h ∷ remove own i) holds
  picked own holds i h e all = record {
    counts = λ p.
        let before = all.counts p in
        let first = count-cons p h (remove own i) in
        let whole = count_remove p own i h e in
        omega (arith, before, first, whole);
  }

  -- each of the holds is the spine's
  pub own_found : (eq : T → T → Bool) → ((f g : List T) → IsTrue (pointwise eq f g) ↔ (f ≡ g)) → (own holds : List (HoldState T)) (i : ℕ) (h : HoldState T) → slice_get own i ≡ Some h → AreSameHolds own holds → Contains holds h
  own_found eq decided own holds i h e all = hold_found eq decided h (remove own i) holds (picked own holds i h e all)

  -- one of them moves
  pub own_moved : (own : List (HoldState T)) (i : ℕ) (from to : HoldState T) (old new : List (HoldState T)) → slice_get own i ≡ Some from → IsMoved from to old new → AreSameHolds own old → AreSameHolds (set own i to) new
  own_moved own i from to old new e moved all = record {
    counts = λ p.
        let there = hold_moved from to (remove own i) old new moved (picked own old i from e all) in
        let after = there.counts p in
        let first = count-cons p to (remove own i) in
        let whole = count_remove p own i from e in
        let changed = count_set p own i from to e in
        omega (arith, after, first, whole, changed);
  }
