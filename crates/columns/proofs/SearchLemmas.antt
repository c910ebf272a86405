-- Searching the runs of sorted updates in place of the updates.
use Rattle.std.proofs.Common.{◌≡◌, ℕ, ◌+◌, ◌<◌, ◌≤◌, Bool, true, false, List, [], length, get_or, ℤ, leb, sym, ap, ◌∙◌, ⊎_elim, arith}
use Rattle.std.specs.List.{AllPairs, AllWithin, filter}
use Rattle.std.specs.List.Sorted.{IsStrictlySortedBy, IsPartitionedBy}
use Rattle.std.specs.declared.cmp.Ordering.{Ordering}
use Rattle.std.proofs.lemmas.Bool.{cases_lt}
use Rattle.std.proofs.lemmas.List.{get_or_default, get_or_past}
use Rattle.update.specs.declared.change.Update.{Update}
use Rattle.columns.specs.Keys.{by_row_then_time, is_row_left_behind, is_left_behind}
use Rattle.columns.specs.Runs.{run_number, row_starts, run_place, IsColumns}
use Rattle.columns.proofs.SeekLemmas.{left_behind_parted}
use Rattle.columns.proofs.ColumnsLemmas.{updates, long, starts_within, starts_up, some_start, row_at_place, some_update}
use Rattle.columns.proofs.RunLemmas.{counts, counts_no_more, number_is, run_number_within}

module _ {T : Type 0} (starts : List ℕ) (rows : List (List ℤ)) (ts : List T) (diffs : List ℤ) (columns : IsColumns starts rows ts diffs) where
  abbrev us : List (Update T)
  us = updates starts rows ts diffs columns

  abbrev up : AllPairs (λ s t. s < t) starts
  up = starts_up starts rows ts diffs columns

  abbrev size : ℕ
  size = length ts

  -- at each place with an update some run has begun
  some_run : (place : ℕ) → 0 < size → 0 < length (filter (λ s. leb s place) starts)
  some_run place h =
      let first = columns.begins h in
      counts place starts up 0 1 (some_start starts rows ts diffs columns h) (omega (arith, first))

  -- a place belongs to a run that begins at or before it
  number_begins : (place : ℕ) → 0 < size → get_or starts (run_number starts place) 0 ≤ place
  number_begins place h =
      let some = some_run place h in
      let within = run_number_within starts place (some_start starts rows ts diffs columns h) in
      ⊎_elim
      (λ l. let few = counts_no_more place starts up (run_number starts place) 0 within l in absurd (omega (arith, few, some)))
      (λ l. l)
      (cases_lt place (get_or starts (run_number starts place) 0))

  -- if a run begins at or before a place, then the place belongs to it or to a later one
  number_from : (q d place : ℕ) → q < length starts → get_or starts q d ≤ place → q ≤ run_number starts place
  number_from q d place h l =
      let counted = counts place starts up q d h l in
      omega (arith, counted)

  -- the row of a run is that of its first update
  row_of_run : (k : ℕ) (d : List ℤ) (u : Update T) → k < length rows → get_or rows k d ≡ (get_or us (get_or starts k 0) u).row
  row_of_run k d u h =
      let rows_long = columns.rows_long in
      let inside : k < length starts = omega (arith, h, rows_long) in
      let within : get_or starts k 0 < size = starts_within starts rows ts diffs columns k 0 inside in
      let number = number_is starts up k 0 (get_or starts k 0) inside (omega arith) (λ m. up k (k + 1) 0 (omega arith) m) in
      get_or_default rows k d [] h
      ∙ ap (λ n. get_or rows n []) (sym number)
      ∙ sym (row_at_place starts rows ts diffs columns (get_or starts k 0) u within)

  -- a run begins in front of the end, or at it if there is none of that number
  pub place_within : (q : ℕ) → get_or starts q size ≤ size
  place_within q =
      ⊎_elim
      (λ h. let before = starts_within starts rows ts diffs columns q size h in omega (arith, before))
      (λ h. let end = get_or_past starts q size h in omega (arith, end))
      (cases_lt q (length starts))

  -- the places at which the runs of these updates begin
  pub place_is : (vs : List (Update T)) → us ≡ vs → (q : ℕ) → run_place vs q ≡ get_or starts q size
  place_is vs view q =
      let runs_are : starts ≡ row_starts vs = columns.starts_are ∙ ap row_starts view in
      let size_is : size ≡ length vs = sym (long starts rows ts diffs columns) ∙ ap length view in
      sym (λ j. get_or (runs_are j) q (size_is j))

  -- the run of an update begins at or before it
  pub own_run_begins : (vs : List (Update T)) → us ≡ vs → (place : ℕ) → place < length vs → run_place vs (run_number starts place) ≤ place
  own_run_begins vs view place h =
      let size_is = sym (ap length view) ∙ long starts rows ts diffs columns in
      let some : 0 < size = omega (arith, h, size_is) in
      let within = run_number_within starts place (some_start starts rows ts diffs columns some) in
      let start = place_is vs view (run_number starts place) ∙ get_or_default starts (run_number starts place) size 0 within in
      let begins = number_begins place some in
      omega (arith, start, begins)

  -- the first run begins at the front
  pub place_first : (vs : List (Update T)) → us ≡ vs → run_place vs 0 ≡ 0
  place_first vs view =
      let within = place_within 0 in
      place_is vs view 0
      ∙ ⊎_elim
      (λ h. get_or_default starts 0 size 1 (some_start starts rows ts diffs columns h) ∙ columns.begins h)
      (λ h. omega (arith, within, h))
      (cases_lt 0 size)

  -- the updates of a run have its row
  pub run_alike : (vs : List (Update T)) → us ≡ vs → (run : ℕ) → run < length starts → (row : List ℤ) → row ≡ get_or rows run [] → AllWithin (λ u. u.row ≡ row) vs (run_place vs run) (run_place vs (run + 1))
  run_alike vs view run h row e i d g l =
      let start = place_is vs view run ∙ get_or_default starts run size 0 h in
      let end = place_is vs view (run + 1) in
      let within = place_within (run + 1) in
      let inside : i < size = omega (arith, l, end, within) in
      let number = number_is starts up run 0 i h (omega (arith, g, start)) (λ m. let next = end ∙ get_or_default starts (run + 1) size 0 m in omega (arith, l, next)) in
      ap (λ ws. (get_or ws i d).row) (sym view)
      ∙ row_at_place starts rows ts diffs columns i d inside
      ∙ ap (λ n. get_or rows n []) number
      ∙ sym e

  -- a place at or behind the start of a run belongs to it or to a later one
  number_behind : (q i : ℕ) → get_or starts q size ≤ i → i < size → q ≤ run_number starts i
  number_behind q i l h =
      ⊎_elim
      (λ m. number_from q size i m l)
      (λ m. let end = get_or_past starts q size m in absurd (omega (arith, end, l, h)))
      (cases_lt q (length starts))

  module _ (p : List ℤ → Bool) (q : ℕ) (last : q ≤ length rows) where
    -- what is so of the rows of the runs in front of one is so of the updates in front of its place
    pub in_front : (first i : ℕ) (d : Update T) → AllWithin (λ row. p row ≡ true) rows first q → first ≤ run_number starts i → i < size → i < get_or starts q size → p (get_or us i d).row ≡ true
    in_front first i d all g h l =
        let some : 0 < size = omega (arith, h) in
        let within = run_number_within starts i (some_start starts rows ts diffs columns some) in
        let begun = some_run i some in
        let number : run_number starts i < q =
        ⊎_elim
        (λ m. let few = counts_no_more i starts up q size m l in omega (arith, few, begun))
        (λ m. omega (arith, m, within))
        (cases_lt q (length starts)) in
        ap p (row_at_place starts rows ts diffs columns i d h) ∙ all (run_number starts i) [] g number

    -- and so of those behind
    pub behind : (i : ℕ) (d : Update T) → AllWithin (λ row. p row ≡ false) rows q (length rows) → get_or starts q size ≤ i → i < size → p (get_or us i d).row ≡ false
    behind i d all l h =
        let some : 0 < size = omega (arith, h) in
        let rows_long = columns.rows_long in
        let within = run_number_within starts i (some_start starts rows ts diffs columns some) in
        let number = number_behind q i l h in
        ap p (row_at_place starts rows ts diffs columns i d h) ∙ all (run_number starts i) [] number (omega (arith, within, rows_long))

  module _ (key : List ℤ) (through : Bool) (q : ℕ) (last : q ≤ length rows) (vs : List (Update T)) (view : us ≡ vs) where
    -- a gallop from a run on finds the updates that are left behind
    pub runs_before : (from : ℕ) → AllWithin (λ row. is_row_left_behind key through row ≡ true) rows from q → AllWithin (λ u. is_left_behind key through u ≡ true) vs (run_place vs from) (run_place vs q)
    runs_before from all i d g l =
        let start = place_is vs view from in
        let end = place_is vs view q in
        let within = place_within q in
        let inside : i < size = omega (arith, l, end, within) in
        ap (λ ws. is_left_behind key through (get_or ws i d)) (sym view)
        ∙ in_front (is_row_left_behind key through) q last from i d all (number_behind from i (omega (arith, g, start)) inside) inside (omega (arith, l, end))

    -- and the others
    pub runs_rest : AllWithin (λ row. is_row_left_behind key through row ≡ false) rows q (length rows) → AllWithin (λ u. is_left_behind key through u ≡ false) vs (run_place vs q) (length vs)
    runs_rest all i d g l =
        let start = place_is vs view q in
        let size_is = sym (ap length view) ∙ long starts rows ts diffs columns in
        ap (λ ws. is_left_behind key through (get_or ws i d)) (sym view)
        ∙ behind (is_row_left_behind key through) q last i d all (omega (arith, g, start)) (omega (arith, l, size_is))

  module _ (cmp : T → T → Ordering) (key : List ℤ) (through : Bool) (sorted : IsStrictlySortedBy (by_row_then_time cmp) us) where
    -- the rows of sorted updates are split where the updates are
    pub rows_parted : IsPartitionedBy (is_row_left_behind key through) rows
    rows_parted i j d l h t =
        let rows_long = columns.rows_long in
        let inside : j < length starts = omega (arith, h, rows_long) in
        let within : get_or starts j 0 < size = starts_within starts rows ts diffs columns j 0 inside in
        let size_is = long starts rows ts diffs columns in
        let u = some_update starts rows ts diffs columns (get_or starts j 0) within in
        let onward : get_or starts i 0 ≤ get_or starts j 0 =
        ⊎_elim (λ m. let less = up i j 0 m inside in omega (arith, less)) (λ m. let e : i ≡ j = omega (arith, l, m) in let same = ap (λ n. get_or starts n 0) e in omega (arith, same)) (cases_lt i j) in
        ap (is_row_left_behind key through) (row_of_run i d u (omega (arith, l, h)))
        ∙ left_behind_parted cmp key through us sorted (get_or starts i 0) (get_or starts j 0) u onward (omega (arith, within, size_is))
        (ap (is_row_left_behind key through) (sym (row_of_run j d u h)) ∙ t)
