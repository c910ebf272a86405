-- Cutting a list of updates off, column by column: which runs stay, and that the first updates are
-- left. And an update that is copied out of the columns.
use Rattle.std.proofs.Common.{◌≡◌, ℕ, zero, suc, ◌+◌, ◌-◌, ◌<◌, ◌≤◌, List, [], ◌∷◌, ◌++◌, length, get_or, get_or-take, slice_get, IsSomeAnd, take, drop, min, leb, cond, true, false, ℤ, pos, refl, sym, ap, ◌∙◌, subst, ⊎_elim, arith}
use Rattle.std.specs.List.{All, AllPairs, filter}
use Rattle.std.specs.List.Sorted.{IsPartitionPoint, IsPartitionedBy}
use Rattle.std.proofs.lemmas.List.Sorted.{IsPartitionedBy-leb}
use Rattle.std.proofs.lemmas.Bool.{cases_eq, cases_lt}
use Rattle.std.proofs.lemmas.Bool.Decides.{nat_tests}
use Rattle.std.proofs.lemmas.List.{append-nil, length-take, take-append-drop, take_at}
use Rattle.std.proofs.lemmas.List.Elements.{All-nil, All-weaker, filter-append}
use Rattle.update.specs.Bags.{same_row}
use Rattle.update.specs.declared.change.Update.{Update}
use Rattle.columns.specs.Tables.{rows_from, row_at}
use Rattle.columns.specs.Runs.{run_number, updates_from, starts_from, row_starts, IsColumns}
use Rattle.columns.proofs.RunLemmas.{append_maybe, kept_none, run_number_within, row_behind, some_first, starts_low, starts_high, updates_same, update_at}
use Rattle.columns.proofs.ColumnsLemmas.{place_inside}

-- the first widths are those of the first rows
pub rows_take : (n place : ℕ) (columns : List (List ℤ)) (widths : List ℕ) → rows_from place columns (take n widths) ≡ take n (rows_from place columns widths)
rows_take zero place columns widths = refl
rows_take (suc n) place columns [] = refl
rows_take (suc n) place columns (w ∷ widths) = ap (λ rows. row_at columns place w ∷ rows) (rows_take n (suc place) columns widths)

-- ascending starts are split at each place by those before it
pub starts_parted_before : (place : ℕ) (starts : List ℕ) → AllPairs (λ s t. s < t) starts → IsPartitionedBy (λ s. leb (suc s) place) starts
starts_parted_before place starts up =
    IsPartitionedBy-leb (λ s. suc s) starts place
    (λ i j d l h.
    ⊎_elim
    (λ e. let same = ap (λ n. get_or starts n d) e in omega (arith, same))
    (λ ne. let less = up i j d (omega (arith, l, ne)) h in omega (arith, less))
    (cases_eq i j))

-- what the tests say of the places in front of the split and behind it
pub point_of_tests : (place : ℕ) (starts : List ℕ) (m : ℕ) → IsPartitionPoint (λ s. leb (suc s) place ≡ true) (λ s. leb (suc s) place ≡ false) starts m → IsPartitionPoint (λ s. s < place) (λ s. place ≤ s) starts m
point_of_tests place starts m point = (
  (λ k d g h. let test = point.0 k d g h in grind (arith, nat_tests)),
  (λ k d g h. let test = point.1 k d g h in grind (arith, nat_tests)),
)

-- where numbers below a bound end, and others begin, the list of both is parted
parted_at : (xs ys : List ℕ) (n m : ℕ) → All (λ s. s < n) xs → All (λ s. n ≤ s) ys → m ≤ length (xs ++ ys) → IsPartitionPoint (λ s. s < n) (λ s. n ≤ s) (xs ++ ys) m → m ≡ length xs
parted_at [] ys n zero low high l point = refl
parted_at [] ys n (suc m) low high l point =
    let early = point.0 0 0 (omega arith) (omega arith) in
    let late = high 0 0 (omega (arith, l)) in
    absurd (omega (arith, early, late))
parted_at (x ∷ xs) ys n zero low high l point =
    let late = point.1 0 0 (omega arith) (omega arith) in
    let early = low 0 0 (omega arith) in
    absurd (omega (arith, early, late))
parted_at (x ∷ xs) ys n (suc m) low high l point =
    ap suc (parted_at xs ys n m (λ k d h. low (suc k) d (omega (arith, h))) high (omega (arith, l))
    ((λ k d g h. point.0 (suc k) d (omega arith) (omega (arith, h))), (λ k d g h. point.1 (suc k) d (omega (arith, g)) (omega (arith, h)))))

module _ {T : Type 0} where
  -- the runs of two lists, one behind the other
  starts_append : (place : ℕ) (before : List ℤ) (us vs : List (Update T)) → starts_from place before (us ++ vs) ≡ starts_from place before us ++ starts_from (place + length us) (row_behind before us) vs
  starts_append place before [] vs =
      let here : place ≡ place + 0 = omega arith in
      ap (λ n. starts_from n before vs) here
  starts_append place before (u ∷ us) vs =
      let there : suc place + length us ≡ place + suc (length us) = omega arith in
      let begun = same_row before u.row in
      let rest = starts_from (suc place) u.row us in
      ap (λ ss. cond begun ss (place ∷ ss)) (starts_append (suc place) u.row us vs ∙ ap (λ n. rest ++ starts_from n (row_behind u.row us) vs) there)
      ∙ append_maybe begun place rest (starts_from (place + suc (length us)) (row_behind u.row us) vs)

  -- the first times and differences are those of the first updates
  updates_take : (n place : ℕ) (starts : List ℕ) (rows : List (List ℤ)) (ts : List T) (diffs : List ℤ) → updates_from place starts rows (take n ts) (take n diffs) ≡ take n (updates_from place starts rows ts diffs)
  updates_take zero place starts rows ts diffs = refl
  updates_take (suc n) place starts rows [] diffs = refl
  updates_take (suc n) place starts rows (t ∷ ts) [] = refl
  updates_take (suc n) place starts rows (t ∷ ts) (d ∷ diffs) =
      ap (λ us. record { time = t; row = get_or rows (run_number starts place) []; diff = d } ∷ us) (updates_take n (suc place) starts rows ts diffs)

  -- no run begins behind the end
  starts_none : (n place : ℕ) (before : List ℤ) (us : List (Update T)) → length us ≤ n → starts_from place before (drop n us) ≡ []
  starts_none zero place before [] l = refl
  starts_none (suc n) place before [] l = refl
  starts_none zero place before (u ∷ us) l = absurd (omega (arith, l))
  starts_none (suc n) place before (u ∷ us) l = starts_none n place before us (omega (arith, l))

module _ {T : Type 0} (starts : List ℕ) (rows : List (List ℤ)) (ts : List T) (diffs : List ℤ) (columns : IsColumns starts rows ts diffs) (n m : ℕ) (inside : m ≤ length starts) (point : IsPartitionPoint (λ s. s < n) (λ s. n ≤ s) starts m) where
  abbrev updates : List (Update T)
  updates = updates_from 0 starts rows ts diffs

  abbrev first : List ℕ
  first = row_starts (take n updates)

  abbrev rest : List ℕ
  rest = starts_from (0 + length (take n updates)) (row_behind [] (take n updates)) (drop n updates)

  split : starts ≡ first ++ rest
  split = columns.starts_are ∙ ap row_starts (sym (take-append-drop n updates)) ∙ starts_append 0 [] (take n updates) (drop n updates)

  first_low : All (λ s. s < n) first
  first_low =
      let cut = length-take n updates in
      All-weaker (λ s. s < 0 + length (take n updates)) (λ s. s < n) (λ s h. omega (arith, h, cut)) first (starts_high 0 [] (take n updates))

  rest_high : All (λ s. n ≤ s) rest
  rest_high =
      ⊎_elim
      (λ h.
      let cut = length-take n updates in
      All-weaker (λ s. 0 + length (take n updates) ≤ s) (λ s. n ≤ s) (λ s l. omega (arith, h, l, cut)) rest (starts_low (0 + length (take n updates)) (row_behind [] (take n updates)) (drop n updates)))
      (λ h. subst (All (λ s. n ≤ s)) (sym (starts_none n (0 + length (take n updates)) (row_behind [] (take n updates)) updates (omega (arith, h)))) (All-nil (λ s. n ≤ s)))
      (cases_lt n (length updates))

  count : m ≡ length first
  count = parted_at first rest n m first_low rest_high (subst (λ ss. m ≤ length ss) split inside) (subst (λ ss. IsPartitionPoint (λ s. s < n) (λ s. n ≤ s) ss m) split point)

  -- the runs that stay are those of the first updates
  starts_kept : take m starts ≡ first
  starts_kept = (λ j. take (count j) (split j)) ∙ take_at first rest (length first) refl

  -- where an update stays, a run does
  some_kept : 0 < length (take n ts) → 0 < m
  some_kept h =
      let cut = length-take n ts in
      let begins = columns.begins (omega (arith, h, cut)) in
      let some = some_first starts begins in
      ⊎_elim
      (λ l. l)
      (λ l.
      let late = point.1 0 1 (omega (arith, l)) some in
      absurd (omega (arith, late, begins, h, cut)))
      (cases_lt 0 m)

  -- an update that stays has the row that it had
  row_stays : (k : ℕ) → k < 0 + length (take n ts) → get_or (take m rows) (run_number (take m starts) k) [] ≡ get_or rows (run_number starts k) []
  row_stays k h =
      let cut = length-take n ts in
      let behind : All (λ s. k < s) rest = All-weaker (λ s. n ≤ s) (λ s. k < s) (λ s l. omega (arith, h, l, cut)) rest rest_high in
      let same : run_number starts k ≡ run_number first k =
      ap (λ ss. run_number ss k) split
      ∙ ap (λ ss. length ss - 1)
      (filter-append (λ s. leb s k) first rest
      ∙ ap (λ ss. filter (λ s. leb s k) first ++ ss) (kept_none k rest behind)
      ∙ append-nil (filter (λ s. leb s k) first)) in
      let some = some_kept (omega (arith, h)) in
      let all = count in
      let within = run_number_within first k (omega (arith, some, all)) in
      ap (λ ss. get_or (take m rows) (run_number ss k) []) starts_kept
      ∙ get_or-take m rows (run_number first k) [] (omega (arith, within, all))
      ∙ ap (λ r. get_or rows r []) (sym same)

  -- the first updates are left
  pub cut_off : updates_from 0 (take m starts) (take m rows) (take n ts) (take n diffs) ≡ take n updates
  cut_off =
      updates_same 0 (take m starts) starts (take m rows) rows (take n ts) (take n diffs) row_stays
      ∙ updates_take n 0 starts rows ts diffs

  -- and what must be so is so
  pub cut_kept : IsColumns (take m starts) (take m rows) (take n ts) (take n diffs)
  cut_kept =
      record {
        diffs_long = length-take n diffs ∙ ap (min n) columns.diffs_long ∙ sym (length-take n ts);
        rows_long = length-take m rows ∙ ap (min m) columns.rows_long ∙ sym (length-take m starts);
        begins = λ h. (let cut = length-take n ts in get_or-take m starts 0 1 (some_kept h) ∙ columns.begins (omega (arith, h, cut)));
        starts_are = starts_kept ∙ sym (ap row_starts cut_off);
      }

-- an update of the time, the row and the difference at a place is the one that is kept there
pub some_whole : {T : Type 0} (starts : List ℕ) (rows : List (List ℤ)) (ts : List T) (diffs : List ℤ) (columns : IsColumns starts rows ts diffs) (us : List (Update T)) (view : updates_from 0 starts rows ts diffs ≡ us) (i : ℕ) (inside : i < length us) (t : T) (row : List ℤ) (d : ℤ) → t ≡ get_or ts i t → row ≡ get_or rows (run_number starts i) [] → d ≡ get_or diffs i (pos 0) → IsSomeAnd (slice_get us i) (λ u. record { time = t; row = row; diff = d } ≡ u)
some_whole starts rows ts diffs columns us view i inside t row d t_is row_is d_is =
    let within = place_inside starts rows ts diffs columns us view i inside in
    let here = update_at 0 starts rows ts diffs i columns.diffs_long within in
    let at : 0 + i ≡ i = omega arith in
    let row_same : row ≡ here.0.row = row_is ∙ sym (here.2 ∙ ap (λ n. get_or rows (run_number starts n) []) at) in
    let d_same : d ≡ here.0.diff = d_is ∙ sym here.3 in
    let t_same : t ≡ here.0.time = t_is ∙ sym (here.4 t) in
    subst (λ o. IsSomeAnd o (λ u. record { time = t; row = row; diff = d } ≡ u)) (sym here.1 ∙ ap (λ vs. slice_get vs i) view)
    (λ j. record { time = t_same j; row = row_same j; diff = d_same j })
