-- A list of updates that is kept column by column: what one more update changes, and what is known
-- of the runs and of one update.
use Rattle.std.proofs.Common.{◌≡◌, ℕ, suc, ◌+◌, ◌-◌, ◌<◌, ◌≤◌, false, cond, List, [], ◌∷◌, ◌++◌, map, length, get_or, slice_get, IsSomeAnd, Some, ℤ, pos, refl, sym, ap, ◌∙◌, subst, ⊎_elim, arith}
use Rattle.std.specs.List.{All, AllPairs}
use Rattle.std.specs.Cmp.Rules.{signed_items}
use Rattle.std.proofs.lemmas.Bool.{cases_lt, true≢false}
use Rattle.std.proofs.lemmas.List.{append-nil, length_push, get_or_append_left, nil_from_length, get_or-map}
use Rattle.std.proofs.lemmas.Option.{slice_get-get_or}
use Rattle.std.proofs.lemmas.List.Elements.{All-head, All-weaker}
use Rattle.update.specs.Bags.{same_row}
use Rattle.update.specs.declared.change.Update.{Update}
use Rattle.columns.specs.Tables.{last_row}
use Rattle.columns.specs.Runs.{run_number, updates_from, row_starts, IsColumns, AreRuns}
use Rattle.columns.proofs.RunLemmas.{number_is, run_number_last, run_number_within, run_number_before, starts_high, starts_ascend, updates_long, updates_get, some_first, starts_push, updates_same, updates_push, row_behind, row_behind_is, update_at, next_row, lengths_maybe, first_start, no_row, starts_differ}

module _ {T : Type 0} (starts : List ℕ) (rows : List (List ℤ)) (elements : List T) (diffs : List ℤ) (columns : IsColumns starts rows elements diffs) where
  abbrev pub updates : List (Update T)
  updates = updates_from 0 starts rows elements diffs

  -- there are as many updates as times
  pub long : length updates ≡ length elements
  long = updates_long 0 starts rows elements diffs columns.diffs_long

  -- each run begins in front of the end
  pub starts_within : All (λ s. s < length elements) starts
  starts_within =
      let high = starts_high 0 [] updates in
      let end : 0 + length updates ≡ length elements = (let l = long in omega (arith, l)) in
      subst (λ n. All (λ s. s < n) starts) end (subst (λ ss. All (λ s. s < 0 + length updates) ss) (sym columns.starts_are) high)

  -- the runs begin one behind the other
  pub starts_up : AllPairs (λ s t. s < t) starts
  starts_up = subst (λ ss. AllPairs (λ s t. s < t) ss) (sym columns.starts_are) (starts_ascend 0 [] updates)

  -- where there is an update, there is a run
  pub some_start : 0 < length elements → 0 < length starts
  some_start h = some_first starts (columns.begins h)

  -- without updates there is no run
  no_start : length elements ≤ 0 → starts ≡ []
  no_start h = none starts (subst (λ n. All (λ s. s < n) starts) (omega (arith, h)) starts_within) where
    none : (ss : List ℕ) → All (λ s. s < 0) ss → ss ≡ []
    none [] all = refl
    none (s ∷ ss) all = let low = All-head (λ s. s < 0) s ss all in absurd (omega (arith, low))

  no_rows : length elements ≤ 0 → rows ≡ []
  no_rows h = nil_from_length rows (columns.rows_long ∙ ap length (no_start h))

  -- the last update has the last row
  last_is : row_behind [] updates ≡ last_row rows
  last_is =
      ⊎_elim
      (λ h.
      let all = All-weaker (λ s. s < length elements) (λ s. s ≤ (0 + length elements) - 1) (λ s l. omega (arith, l)) starts starts_within in
      let long = columns.rows_long in
      let same : length starts - 1 ≡ length rows - 1 = omega (arith, long) in
      row_behind_is 0 [] starts rows elements diffs columns.diffs_long h ∙ ap (λ n. get_or rows n []) (run_number_last starts ((0 + length elements) - 1) all ∙ same))
      (λ h.
      let empty : updates ≡ [] = nil_from_length updates (let l = long in omega (arith, l, h)) in
      ap (row_behind []) empty ∙ sym (ap last_row (no_rows h)))
      (cases_lt 0 (length elements))

  -- what is known of one update
  module _ (us : List (Update T)) (view : updates ≡ us) (i : ℕ) (inside : i < length us) where
    pub place_inside : i < length elements
    place_inside =
        let l = sym long ∙ ap length view in
        omega (arith, l, inside)

    abbrev here : (u : Update T) × (slice_get updates i ≡ Some u) × (u.row ≡ get_or rows (run_number starts (0 + i)) []) × (u.diff ≡ get_or diffs i (pos 0)) × ((t : T) → u.time ≡ get_or elements i t)
    here = update_at 0 starts rows elements diffs i columns.diffs_long place_inside

    -- what is so of the row of its run is so of its row
    pub some_row : (P : List ℤ → Type 0) → P (get_or rows (run_number starts i) []) → IsSomeAnd (slice_get us i) (λ u. P u.row)
    some_row P p =
        let at : 0 + i ≡ i = omega arith in
        subst (λ o. IsSomeAnd o (λ u. P u.row)) (sym here.1 ∙ ap (λ vs. slice_get vs i) view)
        (subst P (sym (here.2 ∙ ap (λ n. get_or rows (run_number starts n) []) at)) p)

    -- its time is the one at its place
    pub some_time : (t : T) → t ≡ get_or elements i t → IsSomeAnd (slice_get us i) (λ u. t ≡ u.time)
    some_time t e =
        subst (λ o. IsSomeAnd o (λ u. t ≡ u.time)) (sym here.1 ∙ ap (λ vs. slice_get vs i) view) (e ∙ sym (here.4 t))

    -- its difference is the one at its place
    pub some_diff : (d : ℤ) → d ≡ get_or diffs i (pos 0) → IsSomeAnd (slice_get us i) (λ u. d ≡ u.diff)
    some_diff d e =
        subst (λ o. IsSomeAnd o (λ u. d ≡ u.diff)) (sym here.1 ∙ ap (λ vs. slice_get vs i) view) (e ∙ sym here.3)

  -- the row of an update is that of its run
  pub row_at_place : (i : ℕ) (d : Update T) → i < length elements → (get_or updates i d).row ≡ get_or rows (run_number starts i) []
  row_at_place i d h =
      let at : 0 + i ≡ i = omega arith in
      ap (λ u. u.row) (updates_get 0 starts rows elements diffs i d columns.diffs_long h) ∙ ap (λ n. get_or rows (run_number starts n) []) at

  -- some update, where there is one
  pub some_update : (i : ℕ) → i < length elements → Update T
  some_update i h = (update_at 0 starts rows elements diffs i columns.diffs_long h).0

  -- neighbouring runs have different rows
  runs_apart : (k : ℕ) (d : Update T) → k + 1 < length starts → (get_or updates (get_or starts k 0) d).row ≡ (get_or updates (get_or starts (k + 1) 0) d).row → ⊥
  runs_apart k d h e =
      let start = get_or starts k 0 in
      let next = get_or starts (k + 1) 0 in
      let up = starts_up in
      let here : k < length starts = omega (arith, h) in
      let onward : start < next = up k (k + 1) 0 (omega arith) h in
      let within : next < length elements = starts_within (k + 1) 0 h in
      let number : run_number starts start ≡ k = number_is starts up k 0 start here (omega arith) (λ m. onward) in
      let last : run_number starts (next - 1) ≡ k = number_is starts up k 0 (next - 1) here (omega (arith, onward)) (λ m. omega (arith, onward)) in
      let l = long in
      let same : (get_or updates (next - 1) d).row ≡ (get_or updates next d).row =
      row_at_place (next - 1) d (omega (arith, within)) ∙ ap (λ n. get_or rows n []) (last ∙ sym number) ∙ sym (row_at_place start d (omega (arith, onward, within))) ∙ e in
      let differ : same_row (get_or ([] ∷ map (λ u. u.row) updates) (next - 0) []) (get_or (map (λ u. u.row) updates) (next - 0) []) ≡ false =
      subst (λ ss. (k d : ℕ) → k < length ss → same_row (get_or ([] ∷ map (λ u. u.row) updates) (get_or ss k d - 0) []) (get_or (map (λ u. u.row) updates) (get_or ss k d - 0) []) ≡ false) (sym columns.starts_are) (starts_differ 0 [] updates) (k + 1) 0 h in
      let before : next - 0 ≡ suc (next - 1) = omega (arith, onward) in
      let whole : next - 0 ≡ next = omega arith in
      let left : get_or ([] ∷ map (λ u. u.row) updates) (next - 0) [] ≡ (get_or updates (next - 1) d).row = ap (λ n. get_or ([] ∷ map (λ u. u.row) updates) n []) before ∙ get_or-map (λ u. u.row) updates (next - 1) d [] (omega (arith, within, l)) in
      let right : get_or (map (λ u. u.row) updates) (next - 0) [] ≡ (get_or updates next d).row = ap (λ n. get_or (map (λ u. u.row) updates) n []) whole ∙ get_or-map (λ u. u.row) updates next d [] (omega (arith, within, l)) in
      true≢false (sym ((signed_items _ _).1 (left ∙ same ∙ sym right)) ∙ differ)

  -- what a reader knows of the runs
  pub are_runs : AreRuns starts updates
  are_runs =
      let l = long in
      record {
        ascending = starts_up;
        first = λ h. (let some : 0 < length elements = omega (arith, h, l) in slice_get-get_or starts 0 1 (some_start some) ∙ ap Some (columns.begins some));
        within = subst (λ n. All (λ s. s < n) starts) (sym l) starts_within;
        alike = λ i j d h m e. row_at_place i d (omega (arith, h, l)) ∙ ap (λ n. get_or rows n []) e ∙ sym (row_at_place j d (omega (arith, m, l)));
        apart = runs_apart;
      }

  module _ (t : T) (row : List ℤ) (d : ℤ) (some : 1 ≤ length row) where
    abbrev next_starts : List ℕ
    next_starts = starts ++ cond (same_row (last_row rows) row) [] (length elements ∷ [])

    abbrev next_rows : List (List ℤ)
    next_rows = rows ++ cond (same_row (last_row rows) row) [] (row ∷ [])

    -- one more update is appended
    pub pushed : updates_from 0 next_starts next_rows (elements ++ t ∷ []) (diffs ++ d ∷ []) ≡ updates ++ record { time = t; row = row; diff = d } ∷ []
    pushed =
        let b = same_row (last_row rows) row in
        let old : updates_from 0 next_starts next_rows elements diffs ≡ updates = updates_same 0 next_starts starts next_rows rows elements diffs
        (λ k h.
        let before : k < length elements = omega (arith, h) in
        let within = run_number_within starts k (some_start (omega (arith, before))) in
        let long = columns.rows_long in
        ap (λ n. get_or next_rows n []) (run_number_before starts b (length elements) k before)
        ∙ get_or_append_left rows (cond b [] (row ∷ [])) [] (run_number starts k) (omega (arith, within, long))) in
        let end : 0 + length elements ≡ length elements = omega arith in
        let new : get_or next_rows (run_number next_starts (0 + length elements)) [] ≡ row = ap (λ n. get_or next_rows (run_number next_starts n) []) end ∙ next_row starts rows (length elements) row b (λ e. (signed_items (last_row rows) row).0 e) columns.rows_long starts_within in
        updates_push 0 next_starts next_rows elements diffs t d columns.diffs_long ∙ (λ j. old j ++ record { time = t; row = new j; diff = d } ∷ [])

    -- and what must be so is so
    pub kept : IsColumns next_starts next_rows (elements ++ t ∷ []) (diffs ++ d ∷ [])
    kept =
        let b = same_row (last_row rows) row in
        record {
          diffs_long = length_push diffs d ∙ ap (λ n. n + 1) columns.diffs_long ∙ sym (length_push elements t);
          rows_long = lengths_maybe starts rows (length elements) row b columns.rows_long;
          begins = λ h.
              ⊎_elim
              (λ l. get_or_append_left starts (cond b [] (length elements ∷ [])) 1 0 (some_start l) ∙ columns.begins l)
              (λ l.
              let differs : b ≡ false = ap (λ rs. same_row (last_row rs) row) (no_rows l) ∙ no_row row some in
              ap (λ ss. get_or (ss ++ cond b [] (length elements ∷ [])) 0 1) (no_start l) ∙ first_start (length elements) b differs (omega (arith, l)))
              (cases_lt 0 (length elements));
          starts_are =
              let end : 0 + length updates ≡ length elements = (let l = long in omega (arith, l)) in
              sym (ap row_starts pushed
              ∙ starts_push 0 [] updates (record { time = t; row = row; diff = d })
              ∙ (λ j. sym columns.starts_are j ++ cond (same_row (last_is j) row) [] (end j ∷ [])));
        }

  module _ (t : T) (d : ℤ) (some : 0 < length elements) where
    -- one more update is appended, and it has the last row
    pub pushed_again : updates_from 0 starts rows (elements ++ t ∷ []) (diffs ++ d ∷ []) ≡ updates ++ record { time = t; row = last_row rows; diff = d } ∷ []
    pushed_again =
        let all = All-weaker (λ s. s < length elements) (λ s. s ≤ 0 + length elements) (λ s h. omega (arith, h)) starts starts_within in
        let long = columns.rows_long in
        let same : length starts - 1 ≡ length rows - 1 = omega (arith, long) in
        updates_push 0 starts rows elements diffs t d columns.diffs_long
        ∙ ap (λ n. updates ++ record { time = t; row = get_or rows n []; diff = d } ∷ []) (run_number_last starts (0 + length elements) all ∙ same)

    -- and what must be so is so
    pub kept_again : IsColumns starts rows (elements ++ t ∷ []) (diffs ++ d ∷ [])
    kept_again =
        let last = last_row rows in
        let place = 0 + length updates in
        record {
          diffs_long = length_push diffs d ∙ ap (λ n. n + 1) columns.diffs_long ∙ sym (length_push elements t);
          rows_long = columns.rows_long;
          begins = λ h. columns.begins some;
          starts_are =
              sym (ap row_starts pushed_again
              ∙ starts_push 0 [] updates (record { time = t; row = last; diff = d })
              ∙ (λ j. sym columns.starts_are j ++ cond (same_row (last_is j) last) [] (place ∷ []))
              ∙ ap (λ b. starts ++ cond b [] (place ∷ [])) ((signed_items last last).1 refl)
              ∙ append-nil starts);
        }

    -- the row is that of the last update
    pub last_again : (us : List (Update T)) → updates ≡ us → (P : List ℤ → Type 0) → P (last_row rows) → (u : Update T) → slice_get us (length us - 1) ≡ Some u → P u.row
    last_again us view P p u e =
        let many = sym long ∙ ap length view in
        let inside : length us - 1 < length us = omega (arith, some, many) in
        let all = All-weaker (λ s. s < length elements) (λ s. s ≤ length us - 1) (λ s h. omega (arith, h, many)) starts starts_within in
        let l = columns.rows_long in
        let same : length starts - 1 ≡ length rows - 1 = omega (arith, l) in
        let number = run_number_last starts (length us - 1) all ∙ same in
        subst (λ o. IsSomeAnd o (λ v. P v.row)) e
        (some_row us view (length us - 1) inside P (subst (λ n. P (get_or rows n [])) (sym number) p))

-- equal lists are kept alike
pub columns_alike : {T : Type 0} (starts starts' : List ℕ) (rows rows' : List (List ℤ)) (elements elements' : List T) (diffs diffs' : List ℤ) → starts' ≡ starts → rows' ≡ rows → elements' ≡ elements → diffs' ≡ diffs → IsColumns starts rows elements diffs → IsColumns starts' rows' elements' diffs'
columns_alike starts starts' rows rows' elements elements' diffs diffs' s r t d columns =
    subst (λ ss. IsColumns ss rows' elements' diffs') (sym s)
    (subst (λ rs. IsColumns starts rs elements' diffs') (sym r)
    (subst (λ ts. IsColumns starts rows ts diffs') (sym t)
    (subst (λ ds. IsColumns starts rows elements ds) (sym d) columns)))

-- one more update with the last row is kept, whatever its time and its difference are
pub kept_longer : {T : Type 0} (starts : List ℕ) (rows : List (List ℤ)) (elements : List T) (diffs : List ℤ) → IsColumns starts rows elements diffs → 0 < length elements → (ts ts' : List T) (t : T) (ds ds' : List ℤ) (d : ℤ) → ts' ≡ ts ++ t ∷ [] → ts ≡ elements → ds' ≡ ds ++ d ∷ [] → ds ≡ diffs → IsColumns starts rows ts' ds'
kept_longer starts rows elements diffs columns some ts ts' t ds ds' d more same more' same' =
    columns_alike _ starts _ rows _ ts' _ ds' refl refl
    (more ∙ ap (λ us. us ++ t ∷ []) same)
    (more' ∙ ap (λ us. us ++ d ∷ []) same')
    (kept_again starts rows elements diffs columns t d some)
