-- A part of a list that is copied element by element, and a batch that is copied run by run.
use Rattle.std.proofs.Common.{◌≡◌, ℕ, zero, suc, ◌+◌, ◌-◌, ◌≤◌, List, [], ◌∷◌, ◌++◌, get_or, slice_get, IsSomeAnd, take, drop, ℤ, sym, ap, ◌∙◌, arith}
use Rattle.std.specs.Prelude.{slice_range}
use Rattle.std.proofs.lemmas.List.{append_assoc}
use Rattle.update.specs.declared.change.Update.{Update}
use Rattle.columns.specs.Runs.{run_place}
use Rattle.columns.proofs.PlaceLemmas.{parts_joined, run_place_up}

-- an update with the time, the row and the difference of one in a list is that one
pub same_update : {T : Type 0} (us : List (Update T)) (i : ℕ) (t : T) (row : List ℤ) (d : ℤ) → IsSomeAnd (slice_get us i) (λ u. t ≡ u.time) → IsSomeAnd (slice_get us i) (λ u. d ≡ u.diff) → (get_or us i (record { time = t; row = row; diff = d })).row ≡ row → IsSomeAnd (slice_get us i) (λ u. record { time = t; row = row; diff = d } ≡ u)
same_update [] i t row d ht hd hr = absurd ht
same_update (u ∷ us) zero t row d ht hd hr = λ j. record { time = ht j; row = sym hr j; diff = hd j }
same_update (u ∷ us) (suc i) t row d ht hd hr = same_update us i t row d ht hd hr

one_of : {X : Type 0} (xs : List X) (i : ℕ) (x : X) → IsSomeAnd (slice_get xs i) (λ y. x ≡ y) → x ∷ [] ≡ take 1 (drop i xs)
one_of [] i x h = absurd h
one_of (y ∷ xs) zero x h = ap (λ z. z ∷ []) h
one_of (y ∷ xs) (suc i) x h = one_of xs i x h

-- one more element of a part is copied
pub one_copied : {X : Type 0} (old now next xs : List X) (i j : ℕ) (x : X) → i ≤ j → now ≡ old ++ slice_range xs i j → next ≡ now ++ x ∷ [] → IsSomeAnd (slice_get xs j) (λ y. x ≡ y) → next ≡ old ++ slice_range xs i (j + 1)
one_copied old now next xs i j x l e m h =
    let one : 1 ≡ (j + 1) - j = omega arith in
    m
    ∙ ap (λ ys. ys ++ x ∷ []) e
    ∙ append_assoc old (slice_range xs i j) (x ∷ [])
    ∙ ap (λ ys. old ++ (slice_range xs i j ++ ys)) (one_of xs j x h ∙ ap (λ n. take n (drop j xs)) one)
    ∙ ap (λ ys. old ++ ys) (parts_joined xs i j (j + 1) l (omega arith))

-- one more run is copied
pub run_copied : {T : Type 0} (old now next us : List (Update T)) (i j start end : ℕ) → i ≤ j → now ≡ old ++ slice_range us (run_place us i) (run_place us j) → start ≡ run_place us j → end ≡ run_place us (j + 1) → next ≡ now ++ slice_range us start end → next ≡ old ++ slice_range us (run_place us i) (run_place us (j + 1))
run_copied old now next us i j start end l e s t m =
    m
    ∙ (λ x. e x ++ slice_range us (s x) (t x))
    ∙ append_assoc old (slice_range us (run_place us i) (run_place us j)) (slice_range us (run_place us j) (run_place us (j + 1)))
    ∙ ap (λ ys. old ++ ys) (parts_joined us (run_place us i) (run_place us j) (run_place us (j + 1)) (run_place_up us i j l) (run_place_up us j (j + 1) (omega arith)))
