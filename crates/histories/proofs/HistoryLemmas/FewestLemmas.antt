-- A list in which no two updates have the same row and time has the least size, which is its sum of
-- absolute diffs, of all lists with its sums. So a reduction that gives only what is final stays
-- within its bound.
use Rattle.update.proofs.ConsolidatedLemmas.{summed_size}
use Rattle.std.proofs.Common.{◌≡◌, ℕ, ◌+◌, ◌≤◌, Bool, true, false, cond, ◌&&◌, ◌||◌, List, [], ◌∷◌, sym, refl, ◌∙◌, subst, arith, unsigned_abs}
use Rattle.std.specs.List.{list_any}
use Rattle.std.proofs.lemmas.Int.{ints}
use Rattle.std.proofs.lemmas.Bool.{and_parts, and_from, or_parts, false≢true}
use Rattle.std.proofs.Math.IntN.{ℤ, pos, ◌+ℤ◌, +ℤ_idl, +ℤ_idr}
use Rattle.lattice.specs.Times.{Times}
use Rattle.lattice.specs.Order.{PartialOrderLaws}
use Rattle.lattice.specs.Frontiers.{is_beyond}
use Rattle.update.specs.Bags.{count_of, same_row}
use Rattle.update.specs.Updates.{as_of, total_at, AreApart}
use Rattle.update.specs.declared.change.Update.{Update}
use Rattle.plan.specs.Changes.{has_passed}
use Rattle.plan.proofs.CountLemmas.{row_same, row_itself}
use Rattle.histories.proofs.HistoryLemmas.FlowLemmas.{is_passed, not_beyond}
use Rattle.histories.proofs.HistoryLemmas.PassedLemmas.{AllPassed, passed_down}
use Rattle.update.proofs.UniqueLemmas.{same_totals}

-- the sum of a function over a list
abbrev pub sum_of : {X : Type 0} → (X → ℕ) → List X → ℕ
sum_of f [] = 0
sum_of f (x ∷ xs) = f x + sum_of f xs

sum_of-le : {X : Type 0} (f g : X → ℕ) → ((x : X) → f x ≤ g x) → (xs : List X) → sum_of f xs ≤ sum_of g xs
sum_of-le f g h [] = omega arith
sum_of-le f g h (x ∷ xs) = let a = h x in let b = sum_of-le f g h xs in omega arith

sum_of-sum : {X : Type 0} (f g : X → ℕ) (xs : List X) → sum_of (λ x. f x + g x) xs ≡ sum_of f xs + sum_of g xs
sum_of-sum f g [] = refl
sum_of-sum f g (x ∷ xs) = let h = sum_of-sum f g xs in omega arith

sum_of-zero : {X : Type 0} (xs : List X) → sum_of (λ x. 0) xs ≡ 0
sum_of-zero [] = refl
sum_of-zero (x ∷ xs) = let h = sum_of-zero xs in omega arith

triangle : (a b : ℤ) → unsigned_abs (a +ℤ b) ≤ unsigned_abs a + unsigned_abs b
triangle a b = omega (arith, ints)

module _ {T : Type 0} (times : Times T) (o : PartialOrderLaws times) where
  -- the two updates have the same row and time
  abbrev pub meets : Update T → Update T → Bool
  meets u v = (times.below u.time v.time && times.below v.time u.time) && same_row u.row v.row

  abbrev counted : List (Update T) → Update T → ℕ
  counted us u = unsigned_abs (total_at times u.row u.time us)

  -- updates that meet have one time
  pub meets_time : (u v : Update T) → meets u v ≡ true → u.time ≡ v.time
  meets_time u v h =
      let a = and_parts (times.below u.time v.time && times.below v.time u.time) (same_row u.row v.row) h in
      let b = and_parts (times.below u.time v.time) (times.below v.time u.time) a.0 in
      o.antisymmetric u.time v.time b.0 b.1

  -- updates that meet have one row
  pub meets_row : (u v : Update T) → meets u v ≡ true → u.row ≡ v.row
  meets_row u v h = row_same u.row v.row (and_parts (times.below u.time v.time && times.below v.time u.time) (same_row u.row v.row) h).1

  turned : (u v : Update T) → meets u v ≡ true → meets v u ≡ true
  turned u v h =
      let t = meets_time u v h in
      let l = and_from (times.below u.time u.time) (times.below u.time u.time) (o.reflexive u.time) (o.reflexive u.time) in
      let both = and_from (times.below u.time u.time && times.below u.time u.time) (same_row u.row u.row) l (row_itself u.row) in
      subst (λ (x : T). ((times.below x u.time && times.below u.time x) && same_row v.row u.row) ≡ true) t (subst (λ (r : List ℤ). ((times.below u.time u.time && times.below u.time u.time) && same_row r u.row) ≡ true) (meets_row u v h) both)

  through_other : (u v x : Update T) → meets u v ≡ true → meets u x ≡ true → meets v x ≡ true
  through_other u v x h k =
      subst (λ (t : T). ((times.below t x.time && times.below x.time t) && same_row v.row x.row) ≡ true) (meets_time u v h) (subst (λ (r : List ℤ). ((times.below u.time x.time && times.below x.time u.time) && same_row r x.row) ≡ true) (meets_row u v h) k)

  -- what an update adds to the total of a row at a time
  shown : (v u : Update T) → cond (same_row v.row u.row && (times.below v.time u.time && times.below u.time v.time)) v.diff (pos 0) ≡ cond (meets v u) v.diff (pos 0)
  shown v u = step (times.below v.time u.time && times.below u.time v.time) (same_row v.row u.row)
    where
      step : (b c : Bool) → cond (c && b) v.diff (pos 0) ≡ cond (b && c) v.diff (pos 0)
      step true true = refl
      step true false = refl
      step false true = refl
      step false false = refl

  none_met : (v : Update T) (d : ℕ) (us : List (Update T)) → list_any (meets v) us ≡ false → sum_of (λ u. cond (meets v u) d 0) us ≡ 0
  none_met v d [] h = refl
  none_met v d (u ∷ us) h = let g = or_parts (meets v u) (list_any (meets v) us) h in rw g.0 (let k = none_met v d us g.1 in omega arith)

  none_through : (v u : Update T) → meets v u ≡ true → (us : List (Update T)) → list_any (meets u) us ≡ false → list_any (meets v) us ≡ false
  none_through v u h [] k = refl
  none_through v u h (x ∷ us) k =
      let g = or_parts (meets u x) (list_any (meets u) us) k in
      step (meets v x) refl g.0 (none_through v u h us g.1)
    where
      step : (b : Bool) → meets v x ≡ b → meets u x ≡ false → list_any (meets v) us ≡ false → (b || list_any (meets v) us) ≡ false
      step true e f ih = absurd (false≢true (sym f ∙ through_other v u x h e))
      step false e f ih = ih

  -- at most one of some updates that are apart has the row and time of v
  once : (v : Update T) (d : ℕ) (us : List (Update T)) → AreApart times us → sum_of (λ u. cond (meets v u) d 0) us ≤ d
  once v d [] a = omega arith
  once v d (u ∷ us) a = step (meets v u) refl (once v d us a.1)
    where
      step : (b : Bool) → meets v u ≡ b → sum_of (λ u. cond (meets v u) d 0) us ≤ d → cond b d 0 + sum_of (λ u. cond (meets v u) d 0) us ≤ d
      step true e ih = let z = none_met v d us (none_through v u e us a.0) in omega arith
      step false e ih = omega arith

  -- the totals of another list, at the rows and times of updates that are apart, add up to no more
  -- than its size
  cover : (us : List (Update T)) → AreApart times us → (vs : List (Update T)) → sum_of (counted vs) us ≤ summed_size vs
  cover us a [] = let z = sum_of-zero us in omega arith
  cover us a (v ∷ vs) =
      let x = sum_of-le (counted (v ∷ vs)) (λ u. cond (meets v u) (unsigned_abs v.diff) 0 + counted vs u) each us in
      let y = sum_of-sum (λ u. cond (meets v u) (unsigned_abs v.diff) 0) (counted vs) us in
      let z = once v (unsigned_abs v.diff) us a in
      let h = cover us a vs in
      omega arith
    where
      absolute_of : (b : Bool) → unsigned_abs (cond b v.diff (pos 0)) ≡ cond b (unsigned_abs v.diff) 0
      absolute_of true = refl
      absolute_of false = refl

      each : (u : Update T) → counted (v ∷ vs) u ≤ cond (meets v u) (unsigned_abs v.diff) 0 + counted vs u
      each u =
          let c = total_at times u.row u.time vs in
          rw (shown v u) (let t = triangle (cond (meets v u) v.diff (pos 0)) c in let e = absolute_of (meets v u) in omega arith)

  count_none : (u : Update T) (us : List (Update T)) → list_any (meets u) us ≡ false → total_at times u.row u.time us ≡ pos 0
  count_none u [] h = refl
  count_none u (v ∷ us) h =
      let g = or_parts (meets u v) (list_any (meets u) us) h in
      rw (shown v u, not_met (meets v u) refl g.0, count_none u us g.1) refl
    where
      not_met : (b : Bool) → meets v u ≡ b → meets u v ≡ false → b ≡ false
      not_met true e f = absurd (false≢true (sym f ∙ turned v u e))
      not_met false e f = refl

  -- the totals of updates that are apart, at their own rows and times, add up to their size
  own_counts : (us : List (Update T)) → AreApart times us → sum_of (counted us) us ≡ summed_size us
  own_counts [] a = refl
  own_counts (u ∷ us) a =
      let h = own_counts us a.1 in
      let f = first in
      let r = rest us a.0 in
      omega arith
    where
      self : meets u u ≡ true
      self = and_from (times.below u.time u.time && times.below u.time u.time) (same_row u.row u.row) (and_from (times.below u.time u.time) (times.below u.time u.time) (o.reflexive u.time) (o.reflexive u.time)) (row_itself u.row)

      first : counted (u ∷ us) u ≡ unsigned_abs u.diff
      first = rw (shown u u, self, count_none u us a.0, +ℤ_idr u.diff) refl

      rest : (xs : List (Update T)) → list_any (meets u) xs ≡ false → sum_of (counted (u ∷ us)) xs ≡ sum_of (counted us) xs
      rest [] k = refl
      rest (x ∷ xs) k =
          let g = or_parts (meets u x) (list_any (meets u) xs) k in
          rw (shown u x, g.0, +ℤ_idl (total_at times x.row x.time us), rest xs g.1) refl

  -- updates that are apart, at passed times, are no larger than any list with the same sums at
  -- passed times
  pub fewest : (front : List T) (us vs : List (Update T)) → AreApart times us → AllPassed times front us → ((t : T) → is_beyond times front t ≡ false → (r : List ℤ) → count_of (as_of times t us) r ≡ count_of (as_of times t vs) r) → summed_size us ≤ summed_size vs
  fewest front us vs a b h =
      let x = own_counts us a in
      let y = same us b in
      let z = cover us a vs in
      omega arith
    where
      same : (xs : List (Update T)) → AllPassed times front xs → sum_of (counted us) xs ≡ sum_of (counted vs) xs
      same [] c = refl
      same (x ∷ xs) c = rw (same_totals o (λ t. has_passed times front t) us vs (λ s t l a. is_passed _ (passed_down times o front s t l (not_beyond _ a))) (λ t k. h t (not_beyond _ k)) x.row x.time (is_passed _ c.0), same xs c.1) refl

  -- at the time of each of these updates, and at every time before it, the two lists have the same
  -- sums
  abbrev pub AgreeBelow : List (Update T) → List (Update T) → List (Update T) → Type 0
  AgreeBelow us vs [] = Unit {0}
  AgreeBelow us vs (x ∷ xs) = ((s : T) → times.below s x.time ≡ true → (r : List ℤ) → count_of (as_of times s us) r ≡ count_of (as_of times s vs) r) × AgreeBelow us vs xs

  -- updates that are apart are no larger than a list that agrees with them at and before each of
  -- their times
  pub fewest_below : (us vs : List (Update T)) → AreApart times us → AgreeBelow us vs us → summed_size us ≤ summed_size vs
  fewest_below us vs a b =
      let x = own_counts us a in
      let y = same us b in
      let z = cover us a vs in
      omega arith
    where
      same : (xs : List (Update T)) → AgreeBelow us vs xs → sum_of (counted us) xs ≡ sum_of (counted vs) xs
      same [] c = refl
      same (x ∷ xs) c =
          rw (same_totals o (λ s. times.below s x.time) us vs (λ s t l p. o.transitive s t x.time l p) (λ t k. c.0 t k) x.row x.time (o.reflexive x.time), same xs c.1) refl
