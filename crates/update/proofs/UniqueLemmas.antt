-- Lists with the same sums at each time of a set have the same totals there. If they are also
-- consolidated, they have the same updates there.
use Rattle.std.proofs.Common.{◌≡◌, ◌≢◌, ℕ, zero, suc, ◌<◌, ◌≤◌, Bool, true, false, cond, not, ◌&&◌, List, [], ◌∷◌, ◌++◌, map, length, IsTrue, refl, ap, sym, ◌∙◌, subst, ◌⊎◌, inl, inr, ⊎_elim, arith}
use Rattle.std.specs.Prelude.{ℤ, pos, ◌+ℤ◌}
use Rattle.std.specs.List.{filter, AllByRecursion}
use Rattle.std.specs.List.Sorted.{IsStrictlySortedBy}
use Rattle.std.specs.Ordering.{is_lt, ordering_then, int_cmp}
use Rattle.std.specs.Cmp.{IsTotalOrder}
use Rattle.std.specs.Cmp.Lexicographic.{slice_cmp}
use Rattle.std.specs.Cmp.Rules.{signed_items}
use Rattle.std.specs.declared.cmp.Ordering.{Ordering}
use Rattle.std.specs.declared.cmp.Ordering.TheVariants.{Less}
use Rattle.std.proofs.lemmas.Cmp.{then_total, on_total, lists_total, int_cmp_total, tied_itself}
use Rattle.std.proofs.lemmas.Map.Keys.{sorted_head, sorted_tail}
use Rattle.std.proofs.lemmas.List.Kept.{IsStrictlySortedBy-filter}
use Rattle.std.proofs.lemmas.Int.{ints}
use Rattle.std.proofs.lemmas.Bool.{and_parts, and_from, and_right, false_from_ne_true, not_from_true, true≢false}
use Rattle.std.proofs.Math.IntN.{neg_ℤ, +ℤ_idl, +ℤ_idr}
use Rattle.lattice.specs.Times.{Times}
use Rattle.lattice.specs.Order.{PartialOrderLaws}
use Rattle.antichain.proofs.Lists.{Among, filter_has, filter_takes}
use Rattle.antichain.proofs.AntichainLemmas.{not_true, not_from, among_same, sorted_same}
use Rattle.update.specs.Bags.{total_by, same_row, Alike, count_of}
use Rattle.update.specs.Updates.{as_of, total_at, total_where, entry, by_time_then_row, IsConsolidated}
use Rattle.update.specs.declared.change.Update.{Update}
use Rattle.update.proofs.SumLemmas.{sum_where, sum_where-same, sum_where-none, sum_where-split, total_by-same, total_by-negate, total_by-append, total_by-map, total_by-filter}

module _ {X : Type 0} where
  -- either some element passes a test, or none does
  pub passes_or_none : (p : X → Bool) (xs : List X) → ((x : X) × Among x xs × IsTrue (p x)) ⊎ ((x : X) → Among x xs → p x ≡ false)
  passes_or_none p [] = inr (λ x m. absurd m)
  passes_or_none p (x ∷ xs) =
      elim (p x) as (λ b. p x ≡ b → ((y : X) × Among y (x ∷ xs) × IsTrue (p y)) ⊎ ((y : X) → Among y (x ∷ xs) → p y ≡ false)) [
        | true ↦ λ e. inl (x, inl refl, e)
        | false ↦ λ e.
            ⊎_elim
            (λ r. inl (r.0, inr r.1, r.2))
            (λ n. inr (λ y m. ⊎_elim (λ d. ap p (sym d) ∙ e) (λ k. n y k) m))
            (passes_or_none p xs)
      ] refl

  filter_as_few : (p q : X → Bool) → ((x : X) → IsTrue (p x) → IsTrue (q x)) → (xs : List X) → length (filter p xs) ≤ length (filter q xs)
  filter_as_few p q h [] = omega arith
  filter_as_few p q h (x ∷ xs) = step (p x) refl (q x) refl (filter_as_few p q h xs)
    where
      step : (b : Bool) → p x ≡ b → (c : Bool) → q x ≡ c → length (filter p xs) ≤ length (filter q xs) → length (cond b (x ∷ filter p xs) (filter p xs)) ≤ length (cond c (x ∷ filter q xs) (filter q xs))
      step true e true f l = omega arith
      step true e false f l = absurd (true≢false (sym (h x e) ∙ f))
      step false e true f l = omega arith
      step false e false f l = l

  -- a test that implies another and fails at an element where the other passes keeps fewer elements
  pub filter_fewer : (p q : X → Bool) → ((x : X) → IsTrue (p x) → IsTrue (q x)) → (xs : List X) (y : X) → Among y xs → p y ≡ false → IsTrue (q y) → length (filter p xs) < length (filter q xs)
  filter_fewer p q h [] y m e f = absurd m
  filter_fewer p q h (x ∷ xs) y m e f =
      ⊎_elim
      (λ d. here (p x) (q x) (ap p d ∙ e) (ap q d ∙ f) (filter_as_few p q h xs))
      (λ k. there (p x) refl (q x) refl (filter_fewer p q h xs y k e f))
      m
    where
      here : (b c : Bool) → b ≡ false → c ≡ true → length (filter p xs) ≤ length (filter q xs) → length (cond b (x ∷ filter p xs) (filter p xs)) < length (cond c (x ∷ filter q xs) (filter q xs))
      here b c i j l = rw (i, j) (omega arith)

      there : (b : Bool) → p x ≡ b → (c : Bool) → q x ≡ c → length (filter p xs) < length (filter q xs) → length (cond b (x ∷ filter p xs) (filter p xs)) < length (cond c (x ∷ filter q xs) (filter q xs))
      there true i true j l = omega arith
      there true i false j l = absurd (true≢false (sym (h x i) ∙ j))
      there false i true j l = omega arith
      there false i false j l = l

-- tests that can be dropped because another test implies or excludes them
drop_middle : (a b c : Bool) → (IsTrue c → IsTrue b) → ((a && b) && c) ≡ (a && c)
drop_middle true true c h = refl
drop_middle true false true h = h refl
drop_middle true false false h = refl
drop_middle false b c h = refl

never_both : (a b c : Bool) → (IsTrue c → IsTrue b → ⊥) → ((a && b) && c) ≡ false
never_both true true true h = absurd (h refl refl)
never_both true true false h = refl
never_both true false c h = refl
never_both false b c h = refl

drop_first : (a b : Bool) → (IsTrue b → IsTrue a) → (a && b) ≡ b
drop_first true b h = refl
drop_first false true h = h refl
drop_first false false h = refl

module _ {T : Type 0} (times : Times T) where
  -- the times are at or before each other, so they are the same time
  abbrev pub ties : T → T → Bool
  ties s t = times.below s t && times.below t s

  -- the first time is before the second and not equal to it
  abbrev pub is_strictly_below : T → T → Bool
  is_strictly_below s t = times.below s t && not (times.below t s)

module _ {T : Type 0} {times : Times T} (o : PartialOrderLaws times) where
  same_time : (s t : T) → IsTrue (ties times s t) → s ≡ t
  same_time s t h = let parts = and_parts (times.below s t) (times.below t s) h in o.antisymmetric s t parts.0 parts.1

  ties_itself : (t : T) → IsTrue (ties times t t)
  ties_itself t = and_from (times.below t t) (times.below t t) (o.reflexive t) (o.reflexive t)

  same_or_not : (s t : T) → (s ≡ t) ⊎ (s ≡ t → ⊥)
  same_or_not s t =
      elim (ties times s t) as (λ b. ties times s t ≡ b → (s ≡ t) ⊎ (s ≡ t → ⊥)) [
        | true ↦ λ e. inl (same_time s t e)
        | false ↦ λ e. inr (λ d. true≢false (sym (subst (λ (u : T). IsTrue (ties times s u)) d (ties_itself s)) ∙ e))
      ] refl

  not_before_itself : (t : T) → is_strictly_below times t t ≡ false
  not_before_itself t = and_right (times.below t t) (not (times.below t t)) (not_from_true (times.below t t) (o.reflexive t))

  before_in_steps : (s t u : T) → IsTrue (is_strictly_below times s t) → IsTrue (is_strictly_below times t u) → IsTrue (is_strictly_below times s u)
  before_in_steps s t u h k =
      let first = and_parts (times.below s t) (not (times.below t s)) h in
      let second = and_parts (times.below t u) (not (times.below u t)) k in
      and_from (times.below s u) (not (times.below u s))
      (o.transitive s t u first.0 second.0)
      (not_from (times.below u s) (λ back. not_true (times.below u t) second.1 (o.transitive u s t back first.0)))

  -- elements with times and values
  module _ {X : Type 0} (time : X → T) (v : X → ℤ) (xs : List X) where
    -- if the values of the elements that pass a test add up to 0 at each time, then they add up to
    -- 0; n bounds their number
    nothing_together : (n : ℕ) (p : X → Bool) → length (filter p xs) < n → ((t : T) → sum_where v (λ x. p x && ties times (time x) t) xs ≡ pos 0) → sum_where v p xs ≡ pos 0
    nothing_together zero p l z = absurd (omega arith)
    nothing_together (suc n) p l z =
        ⊎_elim
        (λ r. some r.0 r.1 r.2 (λ l. nothing_together n (others r.0) l (λ t. others_at r.0 t)))
        (λ none. sum_where-none v p xs none)
        (passes_or_none p xs)
      where
        -- those that pass at other times than y's
        others : X → X → Bool
        others y x = p x && not (ties times (time x) (time y))

        not_other : (y x : X) (t : T) → t ≡ time y → IsTrue (ties times (time x) t) → IsTrue (not (ties times (time x) (time y))) → ⊥
        not_other y x t e h k = not_true (ties times (time x) (time y)) k (ap (λ s. ties times (time x) s) (sym e) ∙ h)

        other : (y x : X) (t : T) → (t ≡ time y → ⊥) → IsTrue (ties times (time x) t) → IsTrue (not (ties times (time x) (time y)))
        other y x t d h = not_from (ties times (time x) (time y)) (λ k. d (sym (same_time (time x) t h) ∙ same_time (time x) (time y) k))

        others_at : (y : X) (t : T) → sum_where v (λ x. others y x && ties times (time x) t) xs ≡ pos 0
        others_at y t =
            ⊎_elim
            (λ e. sum_where-none v (λ x. others y x && ties times (time x) t) xs (λ x m. never_both (p x) (not (ties times (time x) (time y))) (ties times (time x) t) (not_other y x t e)))
            (λ d. sum_where-same v (λ x. others y x && ties times (time x) t) (λ x. p x && ties times (time x) t) xs (λ x. drop_middle (p x) (not (ties times (time x) (time y))) (ties times (time x) t) (other y x t d)) ∙ z t)
            (same_or_not t (time y))

        some : (y : X) → Among y xs → IsTrue (p y) → (length (filter (others y) xs) < n → sum_where v (others y) xs ≡ pos 0) → sum_where v p xs ≡ pos 0
        some y m h ih =
            let own : others y y ≡ false = and_right (p y) (not (ties times (time y) (time y))) (not_from_true (ties times (time y) (time y)) (ties_itself (time y))) in
            let fewer = filter_fewer (others y) p (λ x k. (and_parts (p x) (not (ties times (time x) (time y))) k).0) xs y m own h in
            let rest = ih (omega arith) in
            let here = z (time y) in
            let split = sum_where-split v p (λ x. ties times (time x) (time y)) xs in
            omega (arith, ints)

    -- take a set of times that contains all times before each of its times; if the values up to
    -- each time of the set add up to 0, then so do the values at each of its times
    nothing_at : (among : T → Bool) → ((s t : T) → IsTrue (times.below s t) → IsTrue (among t) → IsTrue (among s)) → ((t : T) → IsTrue (among t) → sum_where v (λ x. times.below (time x) t) xs ≡ pos 0) → (n : ℕ) (t : T) → length (filter (λ x. is_strictly_below times (time x) t) xs) < n → IsTrue (among t) → sum_where v (λ x. ties times (time x) t) xs ≡ pos 0
    nothing_at among down z zero t l a = absurd (omega arith)
    nothing_at among down z (suc n) t l a =
        let split = sum_where-split v (λ x. times.below (time x) t) (λ x. times.below t (time x)) xs in
        let all = z t a in
        let earlier = nothing_together (suc (length (filter (λ x. is_strictly_below times (time x) t) xs))) (λ x. is_strictly_below times (time x) t) (omega arith) (λ s. earlier_at s (nothing_at among down z n s)) in
        omega (arith, ints)
      where
        some : (s : T) (y : X) → Among y xs → IsTrue (is_strictly_below times (time y) t && ties times (time y) s) → (length (filter (λ x. is_strictly_below times (time x) s) xs) < n → IsTrue (among s) → sum_where v (λ x. ties times (time x) s) xs ≡ pos 0) → sum_where v (λ x. is_strictly_below times (time x) t && ties times (time x) s) xs ≡ pos 0
        some s y m h ih =
            let parts = and_parts (is_strictly_below times (time y) t) (ties times (time y) s) h in
            let e = same_time (time y) s parts.1 in
            let b : IsTrue (is_strictly_below times s t) = ap (λ u. is_strictly_below times u t) (sym e) ∙ parts.0 in
            let none_here = ap (λ u. is_strictly_below times u s) e ∙ not_before_itself s in
            let fewer = filter_fewer (λ x. is_strictly_below times (time x) s) (λ x. is_strictly_below times (time x) t) (λ x k. before_in_steps (time x) s t k b) xs y m none_here parts.0 in
            sum_where-same v (λ x. is_strictly_below times (time x) t && ties times (time x) s) (λ x. ties times (time x) s) xs (λ x. drop_first (is_strictly_below times (time x) t) (ties times (time x) s) (λ k. ap (λ u. is_strictly_below times u t) (same_time (time x) s k) ∙ b))
            ∙ ih (omega arith) (down s t (and_parts (times.below s t) (not (times.below t s)) b).0 a)

        earlier_at : (s : T) → (length (filter (λ x. is_strictly_below times (time x) s) xs) < n → IsTrue (among s) → sum_where v (λ x. ties times (time x) s) xs ≡ pos 0) → sum_where v (λ x. is_strictly_below times (time x) t && ties times (time x) s) xs ≡ pos 0
        earlier_at s ih =
            ⊎_elim
            (λ r. some s r.0 r.1 r.2 ih)
            (λ none. sum_where-none v (λ x. is_strictly_below times (time x) t && ties times (time x) s) xs none)
            (passes_or_none (λ x. is_strictly_below times (time x) t && ties times (time x) s) xs)

-- the update that cancels an update
abbrev against : {T : Type 0} → Update T → Update T
against u = record { time = u.time; row = u.row; diff = neg_ℤ u.diff }

-- what an update adds to the count of a row
abbrev counted : {T : Type 0} → List ℤ → Update T → ℤ
counted row u = cond (same_row u.row row) u.diff (pos 0)

module _ {T : Type 0} (row : List ℤ) where
  where_by_time : (p : T → Bool) (us : List (Update T)) → total_where (λ r s. same_row r row && p s) us ≡ sum_where (counted row) (λ u. p u.time) us
  where_by_time p us =
      total_by-same (λ u. cond (same_row u.row row && p u.time) u.diff (pos 0)) (λ u. cond (p u.time) (counted row u) (pos 0)) us (λ u. swapped (same_row u.row row) (p u.time) u.diff)
    where
      swapped : (b c : Bool) (d : ℤ) → cond (b && c) d (pos 0) ≡ cond c (cond b d (pos 0)) (pos 0)
      swapped true c d = refl
      swapped false true d = refl
      swapped false false d = refl

  difference_by_time : (p : T → Bool) (us vs : List (Update T)) → sum_where (counted row) (λ u. p u.time) (us ++ map against vs) ≡ sum_where (counted row) (λ u. p u.time) us +ℤ neg_ℤ (sum_where (counted row) (λ u. p u.time) vs)
  difference_by_time p us vs =
      let f : Update T → ℤ = λ u. cond (p u.time) (counted row u) (pos 0) in
      total_by-append f us (map against vs)
      ∙ ap (λ z. total_by f us +ℤ z) (total_by-map f against vs ∙ total_by-same (λ u. f (against u)) (λ u. neg_ℤ (f u)) vs (λ u. negative (p u.time) (same_row u.row row) u.diff) ∙ total_by-negate f vs)
    where
      negative : (b c : Bool) (d : ℤ) → cond b (cond c (neg_ℤ d) (pos 0)) (pos 0) ≡ neg_ℤ (cond b (cond c d (pos 0)) (pos 0))
      negative true true d = refl
      negative true false d = refl
      negative false c d = refl

module _ {T : Type 0} (times : Times T) (row : List ℤ) where
  count_by_time : (t : T) (us : List (Update T)) → count_of (as_of times t us) row ≡ sum_where (counted row) (λ u. times.below u.time t) us
  count_by_time t us =
      total_by-map (λ e. cond (same_row e.row row) e.count (pos 0)) entry (filter (λ u. times.below u.time t) us)
      ∙ total_by-filter (counted row) (λ u. times.below u.time t) us

  -- the count of a row in a list's sum at t is the total of its updates at or before t
  pub count_as_of : (t : T) (us : List (Update T)) → count_of (as_of times t us) row ≡ total_where (λ r s. same_row r row && times.below s t) us
  count_as_of t us = count_by_time t us ∙ sym (where_by_time row (λ s. times.below s t) us)

module _ {T : Type 0} {times : Times T} (o : PartialOrderLaws times) where
  -- lists with alike sums at each time of the set have the same totals there
  pub same_totals : (among : T → Bool) (us vs : List (Update T)) → ((s t : T) → IsTrue (times.below s t) → IsTrue (among t) → IsTrue (among s)) → ((t : T) → IsTrue (among t) → Alike (as_of times t us) (as_of times t vs)) → (row : List ℤ) (t : T) → IsTrue (among t) → total_at times row t us ≡ total_at times row t vs
  same_totals among us vs down same row t a =
      let nothing = nothing_at o time (counted row) both among down nothing_by (suc (length (filter (λ u. is_strictly_below times u.time t) both))) t (omega arith) a in
      let difference = difference_by_time row (λ s. ties times s t) us vs in
      let ours = where_by_time row (λ s. ties times s t) us in
      let theirs = where_by_time row (λ s. ties times s t) vs in
      omega (arith, ints)
    where
      both : List (Update T)
      both = us ++ map against vs

      time : Update T → T
      time u = u.time

      nothing_by : (s : T) → IsTrue (among s) → sum_where (counted row) (λ u. times.below u.time s) both ≡ pos 0
      nothing_by s b =
          let difference = difference_by_time row (λ r. times.below r s) us vs in
          let ours = count_by_time times row s us in
          let theirs = count_by_time times row s vs in
          let alike = same s b row in
          omega (arith, ints)

-- a property of all elements holds of each
pub at_each : {X : Type 0} (P : X → Type 0) (xs : List X) (x : X) → AllByRecursion P xs → Among x xs → P x
at_each P [] x a m = absurd m
at_each P (y ∷ xs) x a m = ⊎_elim (λ e. subst P e a.0) (λ k. at_each P xs x a.1 k) m

-- the second update has the row and time of the first
abbrev pub meets : {T : Type 0} → Times T → Update T → Update T → Bool
meets times u v = same_row v.row u.row && ties times v.time u.time

module _ {T : Type 0} {times : Times T} (o : PartialOrderLaws times) where
  -- updates that meet have the same row
  pub meets_row : (u v : Update T) → IsTrue (meets times u v) → v.row ≡ u.row
  meets_row u v h = (signed_items v.row u.row).0 (and_parts (same_row v.row u.row) (ties times v.time u.time) h).0

  -- updates that meet have the same time
  pub meets_time : (u v : Update T) → IsTrue (meets times u v) → v.time ≡ u.time
  meets_time u v h = same_time o v.time u.time (and_parts (same_row v.row u.row) (ties times v.time u.time) h).1

  meets_itself : (u : Update T) → IsTrue (meets times u u)
  meets_itself u = and_from (same_row u.row u.row) (ties times u.time u.time) ((signed_items u.row u.row).1 refl) (ties_itself o u.time)

  module _ {cmp : T → T → Ordering} (total : IsTotalOrder cmp) where
    by_time_then_row_total : IsTotalOrder (by_time_then_row cmp)
    by_time_then_row_total = then_total (on_total (λ (u : Update T). u.time) total) (on_total (λ (u : Update T). u.row) (lists_total int_cmp_total))

    -- so neither comes before the other in a consolidated list
    pub not_in_order : (u v : Update T) → v.row ≡ u.row → v.time ≡ u.time → by_time_then_row cmp u v ≡ Less → ⊥
    not_in_order u v e d h =
        let same : by_time_then_row cmp u v ≡ by_time_then_row cmp u u = λ i. ordering_then (cmp u.time (d i)) (slice_cmp int_cmp u.row (e i)) in
        true≢false (sym (ap is_lt h) ∙ ap is_lt (same ∙ tied_itself by_time_then_row_total u))

    apart : (u v : Update T) → by_time_then_row cmp u v ≡ Less → (meets times u v ≡ false) × (meets times v u ≡ false)
    apart u v h = (
      false_from_ne_true (meets times u v) (λ k. not_in_order u v (meets_row u v k) (meets_time u v k) h),
      false_from_ne_true (meets times v u) (λ k. not_in_order u v (sym (meets_row v u k)) (sym (meets_time v u k)) h),
    )

    -- in a consolidated list the total at an update's row and time is that update's diff
    pub own_total : (us : List (Update T)) → IsStrictlySortedBy (by_time_then_row cmp) us → (u : Update T) → Among u us → total_at times u.row u.time us ≡ u.diff
    own_total [] s u m = absurd m
    own_total (x ∷ us) s u m =
        ⊎_elim
        (λ e. subst (λ (w : Update T). total_at times w.row w.time (x ∷ us) ≡ w.diff) e first)
        (λ k. later u k (own_total us (sorted_tail (by_time_then_row cmp) x us s) u k))
        m
      where
        from_first : (v : Update T) → Among v us → (meets times x v ≡ false) × (meets times v x ≡ false)
        from_first v k = apart x v (at_each (λ y. by_time_then_row cmp x y ≡ Less) us v (sorted_head (by_time_then_row cmp) x us s) k)

        first : total_at times x.row x.time (x ∷ us) ≡ x.diff
        first =
            let here = meets_itself x in
            let rest = sum_where-none (λ (v : Update T). v.diff) (meets times x) us (λ v k. (from_first v k).0) in
            (λ i. cond (here i) x.diff (pos 0) +ℤ rest i) ∙ +ℤ_idr x.diff

        later : (v : Update T) → Among v us → total_at times v.row v.time us ≡ v.diff → total_at times v.row v.time (x ∷ us) ≡ v.diff
        later v k rest =
            let here = (from_first v k).1 in
            (λ i. cond (here i) x.diff (pos 0) +ℤ rest i) ∙ +ℤ_idl v.diff

    update_of : (among : T → Bool) (us vs : List (Update T)) → ((row : List ℤ) (t : T) → IsTrue (among t) → total_at times row t us ≡ total_at times row t vs) → IsConsolidated cmp us → IsConsolidated cmp vs → (u : Update T) → Among u (filter (λ w. among w.time) us) → Among u (filter (λ w. among w.time) vs)
    update_of among us vs same a b u m =
        ⊎_elim
        (λ r. filter_takes (λ w. among w.time) vs u (among_same r.0 u vs (one r.0 r.1 r.2) r.1) has.1)
        (λ none. absurd (at_each (λ w. w.diff ≢ pos 0) us u a.nonzero has.0 (sym there ∙ sum_where-none (λ (w : Update T). w.diff) (meets times u) vs none)))
        (passes_or_none (meets times u) vs)
      where
        has : Among u us × IsTrue (among u.time)
        has = filter_has (λ w. among w.time) us u m

        there : total_at times u.row u.time vs ≡ u.diff
        there = sym (same u.row u.time has.1) ∙ own_total us a.ascending u has.0

        one : (v : Update T) → Among v vs → IsTrue (meets times u v) → v ≡ u
        one v k h =
            let row = meets_row u v h in
            let time = meets_time u v h in
            let diff : v.diff ≡ u.diff = sym (own_total vs b.ascending v k) ∙ (λ i. total_at times (row i) (time i) vs) ∙ there in
            λ i. record { time = time i; row = row i; diff = diff i }

    -- consolidated lists with the same totals at the times of the set have the same updates there
    pub same_updates : (among : T → Bool) (us vs : List (Update T)) → ((row : List ℤ) (t : T) → IsTrue (among t) → total_at times row t us ≡ total_at times row t vs) → IsConsolidated cmp us → IsConsolidated cmp vs → filter (λ w. among w.time) us ≡ filter (λ w. among w.time) vs
    same_updates among us vs same a b =
        sorted_same by_time_then_row_total (filter (λ w. among w.time) us) (filter (λ w. among w.time) vs)
        (IsStrictlySortedBy-filter (by_time_then_row cmp) (λ w. among w.time) us a.ascending)
        (IsStrictlySortedBy-filter (by_time_then_row cmp) (λ w. among w.time) vs b.ascending)
        (update_of among us vs same a b)
        (update_of among vs us (λ row t h. sym (same row t h)) b a)
