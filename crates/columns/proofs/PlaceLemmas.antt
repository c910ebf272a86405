-- Where the runs of a list of updates begin: what a reader that goes from run to run may rely on.
use Rattle.std.proofs.Common.{◌≡◌, ℕ, zero, suc, ◌+◌, ◌-◌, ◌<◌, ◌≤◌, List, [], ◌∷◌, ◌++◌, length, take, drop, sym, ap, ◌∙◌, ⊎_elim, arith}
use Rattle.std.specs.Prelude.{slice_range}
use Rattle.std.proofs.lemmas.Bool.{cases_lt}
use Rattle.std.proofs.lemmas.List.{get_or_past, drop-drop, take_all}
use Rattle.update.specs.declared.change.Update.{Update}
use Rattle.columns.specs.Runs.{row_starts, run_place}
use Rattle.columns.proofs.RunLemmas.{starts_high, starts_ascend}

module _ {T : Type 0} (us : List (Update T)) where
  -- behind the last run is the end
  pub run_place_end : run_place us (length (row_starts us)) ≡ length us
  run_place_end = get_or_past (row_starts us) (length (row_starts us)) (length us) (omega arith)

  -- no run begins behind the end
  pub run_place_within : (run : ℕ) → run_place us run ≤ length us
  run_place_within run =
      ⊎_elim
      (λ h. let before = starts_high 0 [] us run (length us) h in omega (arith, before))
      (λ h. let end = get_or_past (row_starts us) run (length us) h in omega (arith, end))
      (cases_lt run (length (row_starts us)))

  -- a run is never empty
  pub run_place_onward : (run : ℕ) → run < length (row_starts us) → run_place us run < run_place us (run + 1)
  run_place_onward run h =
      ⊎_elim
      (λ m. starts_ascend 0 [] us run (run + 1) (length us) (omega arith) m)
      (λ m.
      let inside = starts_high 0 [] us run (length us) h in
      let end = get_or_past (row_starts us) (run + 1) (length us) m in
      omega (arith, inside, end))
      (cases_lt (run + 1) (length (row_starts us)))

  -- later runs begin later
  pub run_place_up : (i j : ℕ) → i ≤ j → run_place us i ≤ run_place us j
  run_place_up i j l =
      ⊎_elim
      (λ h.
      ⊎_elim
      (λ m. let less = starts_ascend 0 [] us i j (length us) m h in omega (arith, less))
      (λ m. let e : i ≡ j = omega (arith, l, m) in let same = ap (run_place us) e in omega (arith, same))
      (cases_lt i j))
      (λ h.
      let end = get_or_past (row_starts us) j (length us) h in
      let within = run_place_within i in
      omega (arith, end, within))
      (cases_lt j (length (row_starts us)))

  -- a run that begins no later has no later number
  pub run_place_order : (i j : ℕ) → i ≤ length (row_starts us) → run_place us i ≤ run_place us j → i ≤ j
  run_place_order i j h l =
      ⊎_elim
      (λ m.
      let next = run_place_onward j (omega (arith, m, h)) in
      let up = run_place_up (j + 1) i (omega (arith, m)) in
      absurd (omega (arith, next, up, l)))
      (λ m. m)
      (cases_lt j i)

  -- all runs together are all updates, if the first run begins at the front
  pub all_runs : run_place us 0 ≡ 0 → slice_range us (run_place us 0) (run_place us (length (row_starts us))) ≡ us
  all_runs e =
      let end = run_place_end in
      ap (λ i. slice_range us i (run_place us (length (row_starts us)))) e
      ∙ take_all (run_place us (length (row_starts us)) - 0) us (omega (arith, end))

take_both : {X : Type 0} (n m : ℕ) (xs : List X) → take n xs ++ take m (drop n xs) ≡ take (n + m) xs
take_both zero m xs = let on : m ≡ zero + m = omega arith in ap (λ k. take k xs) on
take_both (suc n) m [] = take_all m [] (omega arith) ∙ sym (take_all (suc n + m) [] (omega arith))
take_both (suc n) m (x ∷ xs) =
    let on : suc (n + m) ≡ suc n + m = omega arith in
    ap (λ ys. x ∷ ys) (take_both n m xs) ∙ ap (λ k. take k (x ∷ xs)) on

-- two neighbouring parts of a list are one part
pub parts_joined : {X : Type 0} (xs : List X) (i j k : ℕ) → i ≤ j → j ≤ k → slice_range xs i j ++ slice_range xs j k ≡ slice_range xs i k
parts_joined xs i j k l m =
    let here : i + (j - i) ≡ j = omega (arith, l) in
    let both : (j - i) + (k - j) ≡ k - i = omega (arith, l, m) in
    ap (λ ys. slice_range xs i j ++ take (k - j) ys) (sym (drop-drop (j - i) i xs ∙ ap (λ n. drop n xs) here))
    ∙ take_both (j - i) (k - j) (drop i xs)
    ∙ ap (λ n. take n (drop i xs)) both
