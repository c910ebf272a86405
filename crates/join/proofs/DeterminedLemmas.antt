-- Lists of updates that sum to alike bags at every time have the same totals for every test of row
-- and time.
use Rattle.std.proofs.Common.{◌≡◌, ℕ, zero, suc, ◌<◌, Bool, true, false, cond, not, ◌&&◌, List, ◌++◌, map, length, IsTrue, refl, sym, ◌∙◌, ap, ⊎_elim, arith}
use Rattle.std.specs.Prelude.{ℤ, pos, ◌+ℤ◌, neg_ℤ}
use Rattle.std.specs.List.{filter}
use Rattle.std.proofs.lemmas.Int.{ints}
use Rattle.std.proofs.lemmas.Bool.{and_parts, and_from, and_right, not_from_true}
use Rattle.lattice.specs.Times.{Times}
use Rattle.lattice.specs.Order.{PartialOrderLaws}
use Rattle.antichain.proofs.Lists.{Among}
use Rattle.update.specs.Bags.{Alike, same_row}
use Rattle.update.specs.Updates.{as_of, total_at, total_where}
use Rattle.update.specs.declared.change.Update.{Update}
use Rattle.update.proofs.SumLemmas.{total_by-same, total_by-negate, total_by-append, total_by-map, sum_where-none, sum_where-split}
use Rattle.update.proofs.UniqueLemmas.{passes_or_none, filter_fewer, same_totals, ties, meets, meets_row, meets_time}
use Rattle.plan.proofs.CountLemmas.{row_itself, when_zero, total_by-when}

module _ {T : Type 0} {times : Times T} (o : PartialOrderLaws times) where
  -- the total of what passes a test at one row and time is the total there, or 0
  total_one : (p : List ℤ → T → Bool) (u : Update T) (us : List (Update T))
      → total_where (λ r s. p r s && (same_row r u.row && ties times s u.time)) us ≡ cond (p u.row u.time) (total_at times u.row u.time us) (pos 0)
  total_one p u us =
      total_by-same
      (λ v. cond (p v.row v.time && meets times u v) v.diff (pos 0))
      (λ v. cond (p u.row u.time) (cond (meets times u v) v.diff (pos 0)) (pos 0))
      us
      (λ v. at v (meets times u v) refl)
      ∙ total_by-when (p u.row u.time) (λ v. cond (meets times u v) v.diff (pos 0)) us
    where
      none : (b : Bool) (d : ℤ) → cond (b && false) d (pos 0) ≡ cond b (pos 0) (pos 0)
      none true d = refl
      none false d = refl

      some : (b : Bool) (d : ℤ) → cond (b && true) d (pos 0) ≡ cond b d (pos 0)
      some true d = refl
      some false d = refl

      at : (v : Update T) (b : Bool) → meets times u v ≡ b → cond (p v.row v.time && b) v.diff (pos 0) ≡ cond (p u.row u.time) (cond b v.diff (pos 0)) (pos 0)
      at v true h =
          let row = meets_row o u v h in
          let time = meets_time o u v h in
          some (p v.row v.time) v.diff ∙ (λ i. cond (p (row i) (time i)) v.diff (pos 0))
      at v false h = none (p v.row v.time) v.diff ∙ (when_zero (p v.row v.time) ∙ sym (when_zero (p u.row u.time)))

  -- if the total of each row at each time is 0, then so is the total of what passes a test; n
  -- bounds the number of updates that pass, and each step removes those of one row and time
  nothing_passes : (us : List (Update T)) → ((row : List ℤ) (t : T) → total_at times row t us ≡ pos 0)
      → (n : ℕ) (p : List ℤ → T → Bool) → length (filter (λ u. p u.row u.time) us) < n → total_where p us ≡ pos 0
  nothing_passes us z zero p l = absurd (omega arith)
  nothing_passes us z (suc n) p l =
      ⊎_elim
      (λ r. some r.0 r.1 r.2 (λ l. nothing_passes us z n (others r.0) l))
      (λ none. sum_where-none (λ (u : Update T). u.diff) (λ u. p u.row u.time) us none)
      (passes_or_none (λ u. p u.row u.time) us)
    where
      -- what passes at other rows or times than y's
      others : Update T → List ℤ → T → Bool
      others y r s = p r s && not (same_row r y.row && ties times s y.time)

      some : (y : Update T) → Among y us → IsTrue (p y.row y.time)
          → (length (filter (λ u. others y u.row u.time) us) < n → total_where (others y) us ≡ pos 0)
          → total_where p us ≡ pos 0
      some y m h ih =
          let itself : IsTrue (meets times y y) =
          and_from (same_row y.row y.row) (ties times y.time y.time) (row_itself y.row) (and_from (times.below y.time y.time) (times.below y.time y.time) (o.reflexive y.time) (o.reflexive y.time)) in
          let own : others y y.row y.time ≡ false = and_right (p y.row y.time) (not (meets times y y)) (not_from_true (meets times y y) itself) in
          let fewer = filter_fewer (λ u. others y u.row u.time) (λ u. p u.row u.time) (λ u k. (and_parts (p u.row u.time) (not (meets times y u)) k).0) us y m own h in
          let rest = ih (omega arith) in
          let here = total_one p y us ∙ (ap (λ d. cond (p y.row y.time) d (pos 0)) (z y.row y.time) ∙ when_zero (p y.row y.time)) in
          let split = sum_where-split (λ (u : Update T). u.diff) (λ u. p u.row u.time) (meets times y) us in
          omega (arith, ints)

  -- the update that cancels an update
  abbrev against : Update T → Update T
  against u = record { time = u.time; row = u.row; diff = neg_ℤ u.diff }

  -- the total of a list together with what cancels another is the difference of their totals
  total_against : (p : List ℤ → T → Bool) (us vs : List (Update T)) → total_where p (us ++ map against vs) ≡ total_where p us +ℤ neg_ℤ (total_where p vs)
  total_against p us vs =
      let f : Update T → ℤ = λ u. cond (p u.row u.time) u.diff (pos 0) in
      total_by-append f us (map against vs)
      ∙ ap (λ d. total_where p us +ℤ d)
      (total_by-map f against vs
      ∙ (total_by-same (λ u. f (against u)) (λ u. neg_ℤ (f u)) vs (λ u. negative (p u.row u.time) u.diff)
      ∙ total_by-negate f vs))
    where
      negative : (b : Bool) (d : ℤ) → cond b (neg_ℤ d) (pos 0) ≡ neg_ℤ (cond b d (pos 0))
      negative true d = refl
      negative false d = refl

  -- lists that sum to alike bags at every time have the same total for every test of row and time
  pub totals_from_sums : (us vs : List (Update T)) → ((t : T) → Alike (as_of times t us) (as_of times t vs)) → (p : List ℤ → T → Bool) → total_where p us ≡ total_where p vs
  totals_from_sums us vs same p =
      let none = nothing_passes (us ++ map against vs) zeros (suc (length (filter (λ u. p u.row u.time) (us ++ map against vs)))) p (omega arith) in
      let difference = total_against p us vs in
      omega (arith, ints)
    where
      zeros : (row : List ℤ) (t : T) → total_at times row t (us ++ map against vs) ≡ pos 0
      zeros row t =
          let difference = total_against (λ r s. same_row r row && ties times s t) us vs in
          let equal = same_totals o (λ _. true) us vs (λ s u h k. refl) (λ u h. same u) row t refl in
          omega (arith, ints)
