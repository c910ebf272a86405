-- Updates that are moved to the one time have there the sum that they had at the time t up to which
-- they were kept.
use Rattle.std.proofs.Common.{◌≡◌, ℕ, ◌+◌, ◌≤◌, Bool, true, false, cond, ◌&&◌, List, [], ◌∷◌, ◌++◌, map, filter, ℤ, pos, ◌+ℤ◌, refl, sym, ◌∙◌, ap, subst, arith, w64}
use Rattle.std.specs.Prelude.{FitsSigned, unsigned_abs}
use Rattle.std.proofs.lemmas.List.Recursion.{is_sum_by}
use Rattle.std.proofs.lemmas.List.{map-append}
use Rattle.update.specs.declared.change.Update.{Update}
use Rattle.update.specs.declared.unit_time.UnitTime.{UnitTime}
use Rattle.update.specs.Bags.{Entry, same_row, count_of, HasLargeCount, Alike, bag_size}
use Rattle.update.specs.Updates.{entry, as_of, total_at, HasLargeTotal, size}
use Rattle.update.specs.UnitTimes.{unit_times, at_unit_time}
use Rattle.update.proofs.ConsolidatedLemmas.{summed_size, summed_size_is}
use Rattle.lattice.specs.Times.{Times}

-- the one time is at or before itself
all_pass : {X : Type 0} (xs : List X) → filter (λ _. true) xs ≡ xs
all_pass [] = refl
all_pass (x ∷ xs) = ap (λ l. x ∷ l) (all_pass xs)

entries_moved : {T : Type 0} (us : List (Update T)) → map entry (map at_unit_time us) ≡ map entry us
entries_moved [] = refl
entries_moved (u ∷ us) = ap (λ l. entry u ∷ l) (entries_moved us)

and_true : (b : Bool) → (b && true) ≡ b
and_true true = refl
and_true false = refl

-- at the one time the total of a row is its count
total_is_count : (row : List ℤ) (t : UnitTime) (us : List (Update UnitTime)) → total_at unit_times row t us ≡ count_of (map entry us) row
total_is_count row t [] = refl
total_is_count row t (u ∷ us) =
    let here = and_true (same_row u.row row) in
    let rest = total_is_count row t us in
    ap (λ b. cond b u.diff (pos 0) +ℤ total_at unit_times row t us) here ∙ ap (λ n. cond (same_row u.row row) u.diff (pos 0) +ℤ n) rest

-- the size of entries, by recursion
abbrev entry_size : List Entry → ℕ
entry_size [] = 0
entry_size (e ∷ es) = unsigned_abs e.count + entry_size es

entry_size_is : (es : List Entry) → entry_size es ≡ bag_size es
entry_size_is es = is_sum_by entry_size (λ e. unsigned_abs e.count) refl (λ _ _. refl) es

size_of_entries : {T : Type 0} (us : List (Update T)) → entry_size (map entry us) ≡ summed_size us
size_of_entries [] = refl
size_of_entries (u ∷ us) = ap (λ n. unsigned_abs u.diff + n) (size_of_entries us)

summed_size_moved : {T : Type 0} (p : Update T → Bool) (us : List (Update T)) → summed_size (map at_unit_time (filter p us)) ≤ summed_size us
summed_size_moved p [] = omega arith
summed_size_moved p (u ∷ us) =
    let rest = summed_size_moved p us in
    elim (p u) as (λ b. summed_size (map at_unit_time (cond b (u ∷ filter p us) (filter p us))) ≤ unsigned_abs u.diff + summed_size us) [
      | true ↦ omega (arith, rest)
      | false ↦ omega (arith, rest)
    ]

module _ {T : Type 0} (times : Times T) (t : T) (us : List (Update T)) where
  abbrev gone : List (Update UnitTime)
  gone = map at_unit_time (filter (λ u. times.below u.time t) us)

  -- the updates at or before t, moved to the one time, sum to the sum at t; so `sum_at` may
  -- consolidate them
  pub sum_moved : (m : UnitTime) (out : List (Update UnitTime)) → Alike (as_of unit_times m out) (as_of unit_times m gone) → Alike (map entry out) (as_of times t us)
  sum_moved m out same row =
      ap (λ es. count_of (map entry es) row) (sym (all_pass out))
      ∙ same row
      ∙ ap (λ es. count_of (map entry es) row) (all_pass gone)
      ∙ ap (λ es. count_of es row) (entries_moved (filter (λ u. times.below u.time t) us))

  total_moved : (row : List ℤ) (m : UnitTime) → total_at unit_times row m gone ≡ count_of (as_of times t us) row
  total_moved row m = total_is_count row m gone ∙ ap (λ es. count_of es row) (entries_moved (filter (λ u. times.below u.time t) us))

  -- a total that is too large at the one time is a count that is too large at t
  pub large_moved : HasLargeTotal unit_times gone → HasLargeCount (as_of times t us)
  large_moved large = (large.0, λ fits. large.2 (subst (FitsSigned w64) (sym (total_moved large.0 large.1)) fits))

  -- a count that is too large at t is a total that is too large at the one time
  pub large_count : (m : UnitTime) → HasLargeCount (as_of times t us) → HasLargeTotal unit_times gone
  large_count m large = (large.0, m, λ fits. large.1 (subst (FitsSigned w64) (total_moved large.0 m) fits))

  -- moving updates makes nothing larger
  pub size_moved : (out : List (Update UnitTime)) → size out ≤ size gone → bag_size (map entry out) ≤ size us
  size_moved out less =
      let bag = entry_size_is (map entry out) in
      let entries = size_of_entries out in
      let left = summed_size_is out in
      let moved = summed_size_is gone in
      let fewer = summed_size_moved (λ u. times.below u.time t) us in
      let all = summed_size_is us in
      omega (arith, less, bag, entries, left, moved, fewer, all)

-- updates at the one time sum to their entries
module _ (all : List (Update UnitTime)) where
  -- a list with the sum of all entries at the one time is the same bag as they are, so `into_bag`
  -- may consolidate them
  pub sum_entries : (m : UnitTime) (out : List (Update UnitTime)) → Alike (as_of unit_times m out) (as_of unit_times m all) → Alike (map entry out) (map entry all)
  sum_entries m out same row =
      ap (λ us. count_of (map entry us) row) (sym (all_pass out))
      ∙ same row
      ∙ ap (λ us. count_of (map entry us) row) (all_pass all)

  -- a total that is too large at the one time is a count that is too large
  pub large_entries : HasLargeTotal unit_times all → HasLargeCount (map entry all)
  large_entries large = (large.0, λ fits. large.2 (subst (FitsSigned w64) (sym (total_is_count large.0 large.1 all)) fits))

-- entries at the one time, followed by updates that are moved to it, sum to both together
module _ {T : Type 0} (all : List (Update UnitTime)) (us : List (Update T)) (es : List Entry) (parts : map entry all ≡ es ++ map entry us) where
  -- the sum is the bag and the updates together, as `Bag::with` promises
  pub sum_both : (m : UnitTime) (out : List (Update UnitTime)) → Alike (as_of unit_times m out) (as_of unit_times m all) → Alike (map entry out) (es ++ map entry us)
  sum_both m out same row =
      ap (λ us. count_of (map entry us) row) (sym (all_pass out))
      ∙ same row
      ∙ ap (λ us. count_of (map entry us) row) (all_pass all)
      ∙ ap (λ es. count_of es row) parts

  total_both : (row : List ℤ) (m : UnitTime) → total_at unit_times row m all ≡ count_of (es ++ map entry us) row
  total_both row m = total_is_count row m all ∙ ap (λ es. count_of es row) parts

  -- a total that is too large at the one time is a count that is too large
  pub large_both : HasLargeTotal unit_times all → HasLargeCount (es ++ map entry us)
  large_both large = (large.0, λ fits. large.2 (subst (FitsSigned w64) (sym (total_both large.0 large.1)) fits))

  -- a count that is too large is a total that is too large at the one time
  pub large_there : (m : UnitTime) → HasLargeCount (es ++ map entry us) → HasLargeTotal unit_times all
  large_there m large = (large.0, m, λ fits. large.1 (subst (FitsSigned w64) (total_both large.0 m) fits))

-- the entries of a list to which moved updates were appended
pub both_entries : {T : Type 0} (before all : List (Update UnitTime)) (us : List (Update T)) (es : List Entry) → map entry before ≡ es → all ≡ before ++ map at_unit_time us → map entry all ≡ es ++ map entry us
both_entries before all us es e h =
    ap (map entry) h ∙ map-append entry before (map at_unit_time us) ∙ ap (λ xs. xs ++ map entry (map at_unit_time us)) e ∙ ap (λ xs. es ++ xs) (entries_moved us)
