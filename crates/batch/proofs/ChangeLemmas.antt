-- The changes of one row: in the order of a batch if their times ascend, and pushed one by one with
-- the row of the last update.
use Rattle.std.proofs.Common.{◌≡◌, ◌≢◌, ℕ, suc, ◌+◌, ◌-◌, ◌<◌, List, [], ◌∷◌, ◌++◌, length, take, drop, get_or, slice_get, Some, ℤ, pos, FitsSigned, w64, refl, sym, ap, subst, ◌∙◌, arith}
use Rattle.std.specs.List.{All}
use Rattle.std.specs.Cmp.{IsTotalOrder, tied_itself}
use Rattle.std.specs.Cmp.Lexicographic.{slice_cmp}
use Rattle.std.specs.Ordering.{int_cmp, ordering_then}
use Rattle.std.specs.declared.cmp.Ordering.{Ordering}
use Rattle.std.specs.declared.cmp.Ordering.TheVariants.{Less, Equal}
use Rattle.std.proofs.lemmas.Cmp.{int_cmp_total, lists_total}
use Rattle.std.proofs.lemmas.List.{get_or-map, length-map, map_more, append_assoc, length-append, length-drop}
use Rattle.std.proofs.lemmas.Grind.{get_or_after_one}
use Rattle.std.proofs.lemmas.Option.{slice_get_read}
use Rattle.std.proofs.Math.Seq.{take-length, get_or-append_seam}
use Rattle.lattice.specs.Times.{Times}
use Rattle.lattice.specs.Order.{PartialOrderLaws}
use Rattle.update.specs.declared.change.Update.{Update}
use Rattle.update.specs.Updates.{HasLargeTotal}
use Rattle.batch.specs.declared.changes.Change.{Change}
use Rattle.batch.specs.Batches.{by_row_then_time, IsSealed}
use Rattle.batch.specs.Changes.{with_row}
use Rattle.batch.proofs.SealedLemmas.{sealed_by_steps, sealed_fits_by_steps}

row_ties : (row : List ℤ) → slice_cmp int_cmp row row ≡ Equal
row_ties row = tied_itself (lists_total int_cmp_total) row

module _ {T : Type 0} where
  as_change : Update T → Change T
  as_change u = record { time = u.time; diff = u.diff }

  abbrev placed : List ℤ → Change T → Update T
  placed row c = record { time = c.time; row = row; diff = c.diff }

  length_with_row : (row : List ℤ) (cs : List (Change T)) → length (with_row row cs) ≡ length cs
  length_with_row row cs = length-map cs (placed row)

  -- a property of the difference at each place is one of the plain updates too
  diff_of_each : (P : ℤ → Type 0) (row : List ℤ) (cs : List (Change T)) → All (λ c. P c.diff) cs → All (λ u. P u.diff) (with_row row cs)
  diff_of_each P row cs a k d h =
      let within : k < length cs = subst (λ n. k < n) (length_with_row row cs) h in
      subst (λ (u : Update T). P u.diff) (sym (get_or-map (placed row) cs k (as_change d) d within)) (a k (as_change d) within)

module _ {T : Type 0} (cmp : T → T → Ordering) where
  -- neighbours of one row are in order if their times are
  in_row : (row : List ℤ) (cs : List (Change T)) → ((k : ℕ) (d : Change T) → suc k < length cs → cmp (get_or cs k d).time (get_or cs (suc k) d).time ≡ Less) → (k : ℕ) (d : Update T) → suc k < length (with_row row cs) → by_row_then_time cmp (get_or (with_row row cs) k d) (get_or (with_row row cs) (suc k) d) ≡ Less
  in_row row cs behind k d h =
      let e : Change T = as_change d in
      let within : suc k < length cs = subst (λ n. suc k < n) (length_with_row row cs) h in
      let first : get_or (with_row row cs) k d ≡ placed row (get_or cs k e) = get_or-map (placed row) cs k e d (omega (arith, within)) in
      let second : get_or (with_row row cs) (suc k) d ≡ placed row (get_or cs (suc k) e) = get_or-map (placed row) cs (suc k) e d within in
      (λ i. by_row_then_time cmp (first i) (second i))
      ∙ ap (λ o. ordering_then o (cmp (get_or cs k e).time (get_or cs (suc k) e).time)) (row_ties row)
      ∙ behind k e within

module _ {T : Type 0} {times : Times T} {cmp : T → T → Ordering} (o : PartialOrderLaws times) (total : IsTotalOrder cmp) where
  -- changes that were looked at from place to place are sealed, whatever their row
  pub settled_is_sealed : (row : List ℤ) (cs : List (Change T)) → All (λ c. c.diff ≢ pos 0) cs → ((k : ℕ) (d : Change T) → suc k < length cs → cmp (get_or cs k d).time (get_or cs (suc k) d).time ≡ Less) → IsSealed cmp (with_row row cs)
  settled_is_sealed row cs nonzero behind =
      sealed_by_steps o total (with_row row cs) (diff_of_each (λ z. z ≢ pos 0) row cs nonzero) (in_row cmp row cs behind)

  -- and no total is too large
  pub settled_fits : (row : List ℤ) (cs : List (Change T)) → All (λ c. FitsSigned w64 c.diff) cs → ((k : ℕ) (d : Change T) → suc k < length cs → cmp (get_or cs k d).time (get_or cs (suc k) d).time ≡ Less) → HasLargeTotal times (with_row row cs) → ⊥
  settled_fits row cs fits behind =
      sealed_fits_by_steps o total (with_row row cs) (diff_of_each (FitsSigned w64) row cs fits) (in_row cmp row cs behind)

-- all but the first
rest_is : {X : Type 0} (xs : List X) → take (length xs - 1) (drop 1 xs) ≡ drop 1 xs
rest_is [] = refl
rest_is (x ∷ xs) =
    let less : length (x ∷ xs) - 1 ≡ length xs = omega arith in
    ap (λ n. take n xs) less ∙ take-length xs

-- there is one less
pub rest_length : {X : Type 0} (xs : List X) → length (take (length xs - 1) (drop 1 xs)) ≡ length xs - 1
rest_length xs = ap length (rest_is xs) ∙ length-drop 1 xs

-- each stands one place further in the whole list
pub rest_item : {X : Type 0} (xs : List X) (i : ℕ) (x : X) → x ≡ get_or (take (length xs - 1) (drop 1 xs)) i x → x ≡ get_or xs (i + 1) x
rest_item xs i x e =
    let place : 1 + i ≡ i + 1 = omega arith in
    e ∙ ap (λ l. get_or l i x) (rest_is xs) ∙ get_or_after_one xs i x ∙ ap (λ n. get_or xs n x) place

last_is : {X : Type 0} (xs : List X) (y : X) (ys : List X) → ys ≡ xs ++ y ∷ [] → slice_get ys (length ys - 1) ≡ Some y
last_is xs y ys e =
    let whole = xs ++ y ∷ [] in
    let long : length whole ≡ length xs + 1 = length-append xs (y ∷ []) in
    let place : length xs ≡ length whole - 1 = omega (arith, long) in
    let item : get_or whole (length whole - 1) y ≡ y = subst (λ n. get_or whole n y ≡ y) place (get_or-append_seam xs y [] y) in
    subst (λ l. slice_get l (length l - 1) ≡ Some y) (sym e) (slice_get_read whole (length whole) (length whole - 1) y refl (omega (arith, long)) (sym item))

module _ {T : Type 0} (row : List ℤ) (cs : List (Change T)) (us vs : List (Update T)) where
  pushed_last : (i : ℕ) (d : Change T) → i < length cs → vs ≡ us ++ with_row row (take (i + 1) cs) → vs ≡ us ++ with_row row (take i cs) ++ placed row (get_or cs i d) ∷ []
  pushed_last i d h e =
      e ∙ ap (λ ws. us ++ ws) (map_more (placed row) cs i d h) ∙ sym (append_assoc us (with_row row (take i cs)) (placed row (get_or cs i d) ∷ []))

  -- the first change is pushed
  pub run_begun : (c : Change T) (r : List ℤ) (z : ℤ) → 0 < length cs → c ≡ get_or cs 0 c → r ≡ row → z ≡ c.diff → vs ≡ us ++ record { time = c.time; row = r; diff = z } ∷ [] → vs ≡ us ++ with_row row (take (0 + 1) cs)
  run_begun c r z h item same fits e =
      e
      ∙ (λ j. us ++ record { time = c.time; row = same j; diff = fits j } ∷ [])
      ∙ ap (λ x. us ++ placed row x ∷ []) item
      ∙ ap (λ ws. us ++ ws) (sym (map_more (placed row) cs 0 c h))

  -- then there is an update
  pub run_some : (i : ℕ) (d : Change T) → i < length cs → vs ≡ us ++ with_row row (take (i + 1) cs) → 0 < length vs
  run_some i d h e =
      let zs = us ++ with_row row (take i cs) in
      let long : length vs ≡ length zs + 1 = ap length (pushed_last i d h e) ∙ length-append zs (placed row (get_or cs i d) ∷ []) in
      omega (arith, long)

  -- one more is pushed with the row of the last one
  pub run_more : (ws : List (Update T)) (i : ℕ) (c : Change T) (z : ℤ) → i + 1 < length cs → vs ≡ us ++ with_row row (take (i + 1) cs) → c ≡ get_or cs (i + 1) c → z ≡ c.diff → ((u : Update T) → slice_get vs (length vs - 1) ≡ Some u → ws ≡ vs ++ record { time = c.time; row = u.row; diff = z } ∷ []) → ws ≡ us ++ with_row row (take (i + 1 + 1) cs)
  run_more ws i c z h e item fits more =
      let so_far = with_row row (take (i + 1) cs) in
      let last = pushed_last i c (omega (arith, h)) e in
      more (placed row (get_or cs i c)) (last_is (us ++ with_row row (take i cs)) (placed row (get_or cs i c)) vs last)
      ∙ (λ j. e j ++ record { time = c.time; row = row; diff = fits j } ∷ [])
      ∙ ap (λ x. us ++ so_far ++ placed row x ∷ []) item
      ∙ append_assoc us so_far (placed row (get_or cs (i + 1) c) ∷ [])
      ∙ ap (λ l. us ++ l) (sym (map_more (placed row) cs (i + 1) c h))

  -- all are pushed
  pub run_ended : (i : ℕ) → i + 1 ≡ length cs → vs ≡ us ++ with_row row (take (i + 1) cs) → vs ≡ us ++ with_row row cs
  run_ended i all e = e ∙ ap (λ n. us ++ with_row row (take n cs)) all ∙ ap (λ l. us ++ with_row row l) (take-length cs)
