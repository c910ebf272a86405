-- The runs of a list of updates, counted one update after another.
use Rattle.std.proofs.Common.{◌≡◌, ℕ, zero, suc, ◌+◌, ◌-◌, ◌<◌, Bool, true, false, cond, not, List, [], ◌∷◌, ◌++◌, length, get_or, take, ℤ, refl, sym, ap, ◌∙◌, arith}
use Rattle.std.proofs.Math.Seq.{take-suc}
use Rattle.std.proofs.lemmas.List.{append-nil, length_push}
use Rattle.update.specs.Bags.{same_row}
use Rattle.update.specs.declared.change.Update.{Update}
use Rattle.columns.specs.Runs.{row_starts}
use Rattle.columns.proofs.RunLemmas.{row_behind, starts_push}

length_maybe : (b : Bool) (starts : List ℕ) (place : ℕ) → length (starts ++ cond b [] (place ∷ [])) ≡ length starts + cond (not b) 1 0
length_maybe true starts place = ap length (append-nil starts) ∙ omega arith
length_maybe false starts place = length_push starts place

module _ {T : Type 0} where
  -- the last row of a beginning of a list
  row_behind_taken : (before : List ℤ) (us : List (Update T)) (i : ℕ) (u : Update T) → i < length us → row_behind before (take (suc i) us) ≡ (get_or us i u).row
  row_behind_taken before [] i u h = absurd (omega (arith, h))
  row_behind_taken before (v ∷ us) zero u h = refl
  row_behind_taken before (v ∷ us) (suc i) u h = row_behind_taken v.row us i u (omega (arith, h))

  -- one more update is one more run if its row is not that of the one before
  pub run_counted : (us : List (Update T)) (i : ℕ) (u v : Update T) (begun : Bool) → 0 < i → i < length us → begun ≡ not (same_row (get_or us (i - 1) v).row (get_or us i u).row) → length (row_starts (take (i + 1) us)) ≡ length (row_starts (take i us)) + cond begun 1 0
  run_counted us i u v begun some h e =
      let next : i + 1 ≡ suc i = omega arith in
      let last : i ≡ suc (i - 1) = omega (arith, some) in
      let before : row_behind [] (take i us) ≡ (get_or us (i - 1) v).row = ap (λ n. row_behind [] (take n us)) last ∙ row_behind_taken [] us (i - 1) v (omega (arith, h)) in
      let row = (get_or us i u).row in
      ap (λ n. length (row_starts (take n us))) next
      ∙ ap (λ vs. length (row_starts vs)) (take-suc us i u h)
      ∙ ap length (starts_push 0 [] (take i us) (get_or us i u))
      ∙ length_maybe (same_row (row_behind [] (take i us)) row) (row_starts (take i us)) (0 + length (take i us))
      ∙ ap (λ r. length (row_starts (take i us)) + cond (not (same_row r row)) 1 0) before
      ∙ ap (λ b. length (row_starts (take i us)) + cond b 1 0) (sym e)
