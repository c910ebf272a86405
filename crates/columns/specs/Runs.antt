-- Updates that are kept column by column: their times, their differences, and their rows, each
-- stored once for a run of updates that have it.
use Rattle.std.specs.Prelude.{◌≡◌, ℕ, suc, ◌-◌, ◌<◌, ◌+◌, ◌≢◌, nat_le, cond, Some, slice_get, slice_index, List, [], ◌∷◌, ℤ, length, slice_index_or}
use Rattle.std.specs.List.{All, AllPairs, filter}
use Rattle.update.specs.declared.change.Update.{Update}
use Rattle.update.specs.Bags.{same_row}

-- the number of the run at a place: how many runs begin at or before it, less one
abbrev pub run_number : List ℕ → ℕ → ℕ
run_number starts place = length (filter (λ start. nat_le start place) starts) - 1

-- the updates of these times and differences, from a place on: each has the row of its run
abbrev pub updates_from : {T : Type 0} → ℕ → List ℕ → List (List ℤ) → List T → List ℤ → List (Update T)
updates_from place starts rows [] diffs = []
updates_from place starts rows (time ∷ ts) [] = []
updates_from place starts rows (time ∷ ts) (diff ∷ diffs) =
    record { time = time; row = slice_index_or rows (run_number starts place) []; diff = diff }
    ∷ updates_from (suc place) starts rows ts diffs

-- the places, counted from one on, where the row is another than that of the update before
abbrev pub starts_from : {T : Type 0} → ℕ → List ℤ → List (Update T) → List ℕ
starts_from place before [] = []
starts_from place before (u ∷ us) =
    cond (same_row before u.row)
    (starts_from (suc place) u.row us)
    (place ∷ starts_from (suc place) u.row us)

-- the places where a run of updates with one row begins; each row has a column, so the first
-- update begins one
abbrev pub row_starts : {T : Type 0} → List (Update T) → List ℕ
row_starts us = starts_from 0 [] us

-- the place where a run begins, and behind the last run the end of the updates
abbrev pub run_place : {T : Type 0} → List (Update T) → ℕ → ℕ
run_place us run = slice_index_or (row_starts us) run (length us)

-- there is a difference for each time, and a row for each run, and the runs begin where the row of
-- the updates changes
pub record IsColumns {T : Type 0} (starts : List ℕ) (rows : List (List ℤ)) (ts : List T) (diffs : List ℤ) : Type 0 where
  pub diffs_long : length diffs ≡ length ts
  pub rows_long : length rows ≡ length starts
  pub begins : 0 < length ts → slice_index_or starts 0 1 ≡ 0
  pub starts_are : starts ≡ row_starts (updates_from 0 starts rows ts diffs)

-- what a reader knows of the places where the runs begin
pub record AreRuns {T : Type 0} (starts : List ℕ) (us : List (Update T)) : Type 0 where
  pub ascending : AllPairs (λ s t. s < t) starts
  pub first : 0 < length us → slice_get starts 0 ≡ Some 0
  pub within : All (λ s. s < length us) starts
  -- the updates of a run have one row
  pub alike : (i j : ℕ) (d : Update T) → i < length us → j < length us → run_number starts i ≡ run_number starts j → (slice_index_or us i d).row ≡ (slice_index_or us j d).row
  -- neighbouring runs have two
  pub apart : (k : ℕ) (d : Update T) → k + 1 < length starts → (slice_index_or us (slice_index starts k) d).row ≢ (slice_index_or us (slice_index starts (k + 1)) d).row
