-- The runs of a list of updates: which run a place belongs to, where the runs begin, and which
-- updates are kept by their times, their differences and the rows of their runs.
use Rattle.std.proofs.Common.{◌≡◌, ℕ, zero, suc, ◌+◌, ◌-◌, ◌<◌, ◌≤◌, Bool, true, false, cond, List, [], ◌∷◌, ◌++◌, map, length, get_or, slice_get, Some, ℤ, pos, leb, refl, sym, ap, ◌∙◌, subst, ⊎_elim, arith}
use Rattle.std.specs.List.{All, AllPairs, filter}
use Rattle.std.specs.List.Sorted.{IsPartitionPoint, IsPartitionedBy}
use Rattle.std.proofs.lemmas.List.Sorted.{IsPartitionedBy-leb}
use Rattle.std.proofs.lemmas.Bool.{cases_eq, cases_lt, true≢false}
use Rattle.std.proofs.lemmas.Bool.Decides.{nat_tests}
use Rattle.std.proofs.lemmas.List.{append-nil, length_push, get_or_push}
use Rattle.std.proofs.lemmas.List.Elements.{All-cons, All-nil, All-head, All-tail, All-weaker, All-push, filter-append}
use Rattle.std.proofs.lemmas.List.Kept.{AllPairs-cons}
use Rattle.update.specs.Bags.{same_row}
use Rattle.update.specs.declared.change.Update.{Update}
use Rattle.columns.specs.Tables.{last_row}
use Rattle.columns.specs.Runs.{run_number, updates_from, starts_from}

-- a filter that all elements pass keeps them
kept_all : (place : ℕ) (starts : List ℕ) → All (λ s. s ≤ place) starts → filter (λ s. leb s place) starts ≡ starts
kept_all place [] all = refl
kept_all place (s ∷ starts) all =
    let first : leb s place ≡ true = (let low = All-head (λ s. s ≤ place) s starts all in grind (arith, nat_tests)) in
    ap (λ b. cond b (s ∷ filter (λ s. leb s place) starts) (filter (λ s. leb s place) starts)) first
    ∙ ap (λ ss. s ∷ ss) (kept_all place starts (All-tail (λ s. s ≤ place) s starts all))

few_maybe : (b : Bool) (x n : ℕ) (xs : List ℕ) → length xs ≤ n → length (cond b (x ∷ xs) xs) ≤ suc n
few_maybe true x n xs h = omega (arith, h)
few_maybe false x n xs h = omega (arith, h)

-- a filter keeps at most all elements
kept_few : (place : ℕ) (starts : List ℕ) → length (filter (λ s. leb s place) starts) ≤ length starts
kept_few place [] = omega arith
kept_few place (s ∷ starts) = few_maybe (leb s place) s (length starts) (filter (λ s. leb s place) starts) (kept_few place starts)

-- behind the last start is the last run
pub run_number_last : (starts : List ℕ) (place : ℕ) → All (λ s. s ≤ place) starts → run_number starts place ≡ length starts - 1
run_number_last starts place all = ap (λ ss. length ss - 1) (kept_all place starts all)

-- the number of a run is below the number of runs
pub run_number_within : (starts : List ℕ) (place : ℕ) → 0 < length starts → run_number starts place < length starts
run_number_within starts place some =
    let few = kept_few place starts in
    omega (arith, few, some)

-- a start that is to come changes no earlier number
pub run_number_before : (starts : List ℕ) (b : Bool) (next place : ℕ) → place < next → run_number (starts ++ cond b [] (next ∷ [])) place ≡ run_number starts place
run_number_before starts true next place h = ap (λ ss. run_number ss place) (append-nil starts)
run_number_before starts false next place h =
    let late : leb next place ≡ false = grind (arith, nat_tests) in
    ap (λ ss. length ss - 1)
    (filter-append (λ s. leb s place) starts (next ∷ [])
    ∙ ap (λ b. filter (λ s. leb s place) starts ++ cond b (next ∷ []) []) late
    ∙ append-nil (filter (λ s. leb s place) starts))

-- a filter that no element passes keeps none
pub kept_none : (place : ℕ) (starts : List ℕ) → All (λ s. place < s) starts → filter (λ s. leb s place) starts ≡ []
kept_none place [] all = refl
kept_none place (s ∷ starts) all =
    let late : leb s place ≡ false = (let high = All-head (λ s. place < s) s starts all in grind (arith, nat_tests)) in
    ap (λ b. cond b (s ∷ filter (λ s. leb s place) starts) (filter (λ s. leb s place) starts)) late
    ∙ kept_none place starts (All-tail (λ s. place < s) s starts all)

ascending_tail : (s : ℕ) (starts : List ℕ) → AllPairs (λ s t. s < t) (s ∷ starts) → AllPairs (λ s t. s < t) starts
ascending_tail s starts up i j d h l = up (suc i) (suc j) d (omega (arith, h)) (omega (arith, l))

-- a run that begins at or before a place is counted there
pub counts : (place : ℕ) (starts : List ℕ) → AllPairs (λ s t. s < t) starts → (k d : ℕ) → k < length starts → get_or starts k d ≤ place → k < length (filter (λ s. leb s place) starts)
counts place [] up k d h l = absurd (omega (arith, h))
counts place (s ∷ starts) up zero d h l =
    let first : leb s place ≡ true = grind (arith, nat_tests) in
    let long = ap (λ b. length (cond b (s ∷ filter (λ s. leb s place) starts) (filter (λ s. leb s place) starts))) first in
    omega (arith, long)
counts place (s ∷ starts) up (suc k) d h l =
    let before : s < get_or starts k d = up 0 (suc k) d (omega arith) h in
    let first : leb s place ≡ true = (let low : s ≤ place = omega (arith, before, l) in grind (arith, nat_tests)) in
    let long = ap (λ b. length (cond b (s ∷ filter (λ s. leb s place) starts) (filter (λ s. leb s place) starts))) first in
    let rest = counts place starts (ascending_tail s starts up) k d (omega (arith, h)) l in
    omega (arith, long, rest)

-- and no run is that begins at or behind one that begins behind it
pub counts_no_more : (place : ℕ) (starts : List ℕ) → AllPairs (λ s t. s < t) starts → (k d : ℕ) → k < length starts → place < get_or starts k d → length (filter (λ s. leb s place) starts) ≤ k
counts_no_more place [] up k d h l = absurd (omega (arith, h))
counts_no_more place (s ∷ starts) up zero d h l =
    let all : All (λ t. place < t) (s ∷ starts) = All-cons (λ t. place < t) s starts l (λ k e m. let later = up 0 (suc k) e (omega arith) (omega (arith, m)) in omega (arith, later, l)) in
    let none = ap length (kept_none place (s ∷ starts) all) in
    omega (arith, none)
counts_no_more place (s ∷ starts) up (suc k) d h l =
    few_maybe (leb s place) s k (filter (λ s. leb s place) starts) (counts_no_more place starts (ascending_tail s starts up) k d (omega (arith, h)) l)

-- ascending starts are split at each place
pub starts_parted : (place : ℕ) (starts : List ℕ) → AllPairs (λ s t. s < t) starts → IsPartitionedBy (λ s. leb s place) starts
starts_parted place starts up =
    IsPartitionedBy-leb (λ s. s) starts place
    (λ i j d l h.
    ⊎_elim
    (λ e. let same = ap (λ n. get_or starts n d) e in omega (arith, same))
    (λ ne. let less = up i j d (omega (arith, l, ne)) h in omega (arith, less))
    (cases_eq i j))

-- where they are split is the number of those that are counted
pub counted_at : (place : ℕ) (starts : List ℕ) (n : ℕ) → AllPairs (λ s t. s < t) starts → n ≤ length starts → IsPartitionPoint (λ s. leb s place ≡ true) (λ s. leb s place ≡ false) starts n → length (filter (λ s. leb s place) starts) ≡ n
counted_at place starts n up l point =
    let count = length (filter (λ s. leb s place) starts) in
    let few : count ≤ length starts = kept_few place starts in
    let high : count ≤ n =
    ⊎_elim
    (λ h. counts_no_more place starts up n 0 h (let late = point.1 n 0 (omega arith) h in grind (arith, nat_tests)))
    (λ h. omega (arith, h, few))
    (cases_lt n (length starts)) in
    let low : n ≤ count =
    ⊎_elim
    (λ h.
    let early : get_or starts (n - 1) 0 ≤ place = (let test = point.0 (n - 1) 0 (omega arith) (omega (arith, h)) in grind (arith, nat_tests)) in
    let counted = counts place starts up (n - 1) 0 (omega (arith, h, l)) early in
    omega (arith, counted))
    (λ h. omega (arith, h))
    (cases_lt 0 n) in
    omega (arith, high, low)

-- a place belongs to the run that begins last in front of it
pub number_is : (starts : List ℕ) → AllPairs (λ s t. s < t) starts → (k d place : ℕ) → k < length starts → get_or starts k d ≤ place → (k + 1 < length starts → place < get_or starts (k + 1) d) → run_number starts place ≡ k
number_is starts up k d place h l m =
    let low = counts place starts up k d h l in
    let few = kept_few place starts in
    let high : length (filter (λ s. leb s place) starts) ≤ k + 1 =
    ⊎_elim
    (λ n. counts_no_more place starts up (k + 1) d n (m n))
    (λ n. omega (arith, n, few))
    (cases_lt (k + 1) (length starts)) in
    omega (arith, low, high)

-- a list that may begin with one more element
AllPairs-maybe : (b : Bool) (x : ℕ) (xs : List ℕ) → All (λ y. x < y) xs → AllPairs (λ y z. y < z) xs → AllPairs (λ y z. y < z) (cond b xs (x ∷ xs))
AllPairs-maybe true x xs h a = a
AllPairs-maybe false x xs h a = AllPairs-cons (λ y z. y < z) x xs h a

All-maybe : (P : ℕ → Type 0) (b : Bool) (x : ℕ) (xs : List ℕ) → P x → All P xs → All P (cond b xs (x ∷ xs))
All-maybe P true x xs h a = a
All-maybe P false x xs h a = All-cons P x xs h a

All-maybe_if : (P : ℕ → Type 0) (b : Bool) (x : ℕ) (xs : List ℕ) → (b ≡ false → P x) → All P xs → All P (cond b xs (x ∷ xs))
All-maybe_if P true x xs h a = a
All-maybe_if P false x xs h a = All-cons P x xs (h refl) a

pub append_maybe : (b : Bool) (x : ℕ) (xs ys : List ℕ) → cond b (xs ++ ys) (x ∷ (xs ++ ys)) ≡ cond b xs (x ∷ xs) ++ ys
append_maybe true x xs ys = refl
append_maybe false x xs ys = refl

module _ {T : Type 0} where
  -- runs begin at or behind the first place
  pub starts_low : (place : ℕ) (before : List ℤ) (us : List (Update T)) → All (λ s. place ≤ s) (starts_from place before us)
  starts_low place before [] = All-nil (λ s. place ≤ s)
  starts_low place before (u ∷ us) =
      All-maybe (λ s. place ≤ s) (same_row before u.row) place (starts_from (suc place) u.row us) (omega arith)
      (All-weaker (λ s. suc place ≤ s) (λ s. place ≤ s) (λ s h. omega (arith, h)) (starts_from (suc place) u.row us) (starts_low (suc place) u.row us))

  -- runs begin in front of the end
  pub starts_high : (place : ℕ) (before : List ℤ) (us : List (Update T)) → All (λ s. s < place + length us) (starts_from place before us)
  starts_high place before [] = All-nil (λ s. s < place + 0)
  starts_high place before (u ∷ us) =
      All-maybe (λ s. s < place + suc (length us)) (same_row before u.row) place (starts_from (suc place) u.row us) (omega arith)
      (All-weaker (λ s. s < suc place + length us) (λ s. s < place + suc (length us)) (λ s h. omega (arith, h)) (starts_from (suc place) u.row us) (starts_high (suc place) u.row us))

  -- runs begin one behind the other
  pub starts_ascend : (place : ℕ) (before : List ℤ) (us : List (Update T)) → AllPairs (λ s t. s < t) (starts_from place before us)
  starts_ascend place before [] = λ i j d h l. absurd (omega (arith, l))
  starts_ascend place before (u ∷ us) =
      AllPairs-maybe (same_row before u.row) place (starts_from (suc place) u.row us)
      (All-weaker (λ s. suc place ≤ s) (λ s. place < s) (λ s h. omega (arith, h)) (starts_from (suc place) u.row us) (starts_low (suc place) u.row us))
      (starts_ascend (suc place) u.row us)

  -- where a run begins, the row is another than the one before
  pub starts_differ : (place : ℕ) (before : List ℤ) (us : List (Update T)) → All (λ s. same_row (get_or (before ∷ map (λ u. u.row) us) (s - place) []) (get_or (map (λ u. u.row) us) (s - place) []) ≡ false) (starts_from place before us)
  starts_differ place before [] = λ k d h. absurd (omega (arith, h))
  starts_differ place before (u ∷ us) =
      let rows = map (λ v. v.row) us in
      let rest = starts_from (suc place) u.row us in
      All-maybe_if (λ s. same_row (get_or (before ∷ u.row ∷ rows) (s - place) []) (get_or (u.row ∷ rows) (s - place) []) ≡ false) (same_row before u.row) place rest
      (λ e.
      let first : 0 ≡ place - place = omega arith in
      subst (λ n. same_row (get_or (before ∷ u.row ∷ rows) n []) (get_or (u.row ∷ rows) n []) ≡ false) first e)
      (λ k d h.
      let low = starts_low (suc place) u.row us k d h in
      let later : suc (get_or rest k d - suc place) ≡ get_or rest k d - place = omega (arith, low) in
      subst (λ n. same_row (get_or (before ∷ u.row ∷ rows) n []) (get_or (u.row ∷ rows) n []) ≡ false) later (starts_differ (suc place) u.row us k d h))

  -- the row of the last update, or the row before the first
  abbrev pub row_behind : List ℤ → List (Update T) → List ℤ
  row_behind before [] = before
  row_behind before (u ∷ us) = row_behind u.row us

  -- one more update begins a run if its row is not that of the last one
  pub starts_push : (place : ℕ) (before : List ℤ) (us : List (Update T)) (u : Update T) → starts_from place before (us ++ u ∷ []) ≡ starts_from place before us ++ cond (same_row (row_behind before us) u.row) [] ((place + length us) ∷ [])
  starts_push place before [] u =
      let here : place ≡ place + 0 = omega arith in
      ap (λ n. cond (same_row before u.row) [] (n ∷ [])) here
  starts_push place before (v ∷ us) u =
      let there : suc place + length us ≡ place + suc (length us) = omega arith in
      let begun = same_row before v.row in
      let rest = starts_from (suc place) v.row us in
      let last = same_row (row_behind v.row us) u.row in
      ap (λ ss. cond begun ss (place ∷ ss)) (starts_push (suc place) v.row us u ∙ ap (λ n. rest ++ cond last [] (n ∷ [])) there)
      ∙ append_maybe begun place rest (cond last [] ((place + suc (length us)) ∷ []))

  -- there are as many updates as times
  pub updates_long : (place : ℕ) (starts : List ℕ) (rows : List (List ℤ)) (elements : List T) (diffs : List ℤ) → length diffs ≡ length elements → length (updates_from place starts rows elements diffs) ≡ length elements
  updates_long place starts rows [] diffs e = refl
  updates_long place starts rows (t ∷ elements) [] e = absurd (omega (arith, e))
  updates_long place starts rows (t ∷ elements) (d ∷ diffs) e = ap suc (updates_long (suc place) starts rows elements diffs (omega (arith, e)))

  -- an update has the time and the difference at its place, and the row of its run
  pub updates_get : (place : ℕ) (starts : List ℕ) (rows : List (List ℤ)) (elements : List T) (diffs : List ℤ) (k : ℕ) (u : Update T) → length diffs ≡ length elements → k < length elements → get_or (updates_from place starts rows elements diffs) k u ≡ record { time = get_or elements k u.time; row = get_or rows (run_number starts (place + k)) []; diff = get_or diffs k (pos 0) }
  updates_get place starts rows [] diffs k u e h = absurd (omega (arith, h))
  updates_get place starts rows (t ∷ elements) [] k u e h = absurd (omega (arith, e))
  updates_get place starts rows (t ∷ elements) (d ∷ diffs) zero u e h =
      let here : place ≡ place + 0 = omega arith in
      ap (λ n. record { time = t; row = get_or rows (run_number starts n) []; diff = d }) here
  updates_get place starts rows (t ∷ elements) (d ∷ diffs) (suc k) u e h =
      let there : suc place + k ≡ place + suc k = omega arith in
      updates_get (suc place) starts rows elements diffs k u (omega (arith, e)) (omega (arith, h))
      ∙ ap (λ n. record { time = get_or elements k u.time; row = get_or rows (run_number starts n) []; diff = get_or diffs k (pos 0) }) there

  -- the update at a place, whatever stands for one that is missing
  pub update_at : (place : ℕ) (starts : List ℕ) (rows : List (List ℤ)) (elements : List T) (diffs : List ℤ) (k : ℕ) → length diffs ≡ length elements → k < length elements → (u : Update T) × (slice_get (updates_from place starts rows elements diffs) k ≡ Some u) × (u.row ≡ get_or rows (run_number starts (place + k)) []) × (u.diff ≡ get_or diffs k (pos 0)) × ((t : T) → u.time ≡ get_or elements k t)
  update_at place starts rows [] diffs k e h = absurd (omega (arith, h))
  update_at place starts rows (t ∷ elements) [] k e h = absurd (omega (arith, e))
  update_at place starts rows (t ∷ elements) (d ∷ diffs) zero e h =
      let here : place ≡ place + 0 = omega arith in
      (record { time = t; row = get_or rows (run_number starts place) []; diff = d }, refl, ap (λ n. get_or rows (run_number starts n) []) here, refl, λ s. refl)
  update_at place starts rows (t ∷ elements) (d ∷ diffs) (suc k) e h =
      let there : suc place + k ≡ place + suc k = omega arith in
      let p = update_at (suc place) starts rows elements diffs k (omega (arith, e)) (omega (arith, h)) in
      (p.0, p.1, p.2 ∙ ap (λ n. get_or rows (run_number starts n) []) there, p.3, p.4)

  -- the times of the updates
  pub times_are : (place : ℕ) (starts : List ℕ) (rows : List (List ℤ)) (elements : List T) (diffs : List ℤ) → length diffs ≡ length elements → map (λ (u : Update T). u.time) (updates_from place starts rows elements diffs) ≡ elements
  times_are place starts rows [] diffs e = refl
  times_are place starts rows (t ∷ elements) [] e = absurd (omega (arith, e))
  times_are place starts rows (t ∷ elements) (d ∷ diffs) e = ap (λ ts. t ∷ ts) (times_are (suc place) starts rows elements diffs (omega (arith, e)))

  -- the differences of the updates
  pub diffs_are : (place : ℕ) (starts : List ℕ) (rows : List (List ℤ)) (elements : List T) (diffs : List ℤ) → length diffs ≡ length elements → map (λ (u : Update T). u.diff) (updates_from place starts rows elements diffs) ≡ diffs
  diffs_are place starts rows [] [] e = refl
  diffs_are place starts rows [] (d ∷ diffs) e = absurd (omega (arith, e))
  diffs_are place starts rows (t ∷ elements) [] e = absurd (omega (arith, e))
  diffs_are place starts rows (t ∷ elements) (d ∷ diffs) e = ap (λ ds. d ∷ ds) (diffs_are (suc place) starts rows elements diffs (omega (arith, e)))

  -- runs that give the same rows give the same updates
  pub updates_same : (place : ℕ) (starts others : List ℕ) (rows more : List (List ℤ)) (elements : List T) (diffs : List ℤ) → ((k : ℕ) → k < place + length elements → get_or rows (run_number starts k) [] ≡ get_or more (run_number others k) []) → updates_from place starts rows elements diffs ≡ updates_from place others more elements diffs
  updates_same place starts others rows more [] diffs same = refl
  updates_same place starts others rows more (t ∷ elements) [] same = refl
  updates_same place starts others rows more (t ∷ elements) (d ∷ diffs) same =
      let first = same place (omega arith) in
      let rest = updates_same (suc place) starts others rows more elements diffs (λ k h. same k (omega (arith, h))) in
      λ j. record { time = t; row = first j; diff = d } ∷ rest j

  -- one more time and difference are one more update
  pub updates_push : (place : ℕ) (starts : List ℕ) (rows : List (List ℤ)) (elements : List T) (diffs : List ℤ) (t : T) (d : ℤ) → length diffs ≡ length elements → updates_from place starts rows (elements ++ t ∷ []) (diffs ++ d ∷ []) ≡ updates_from place starts rows elements diffs ++ record { time = t; row = get_or rows (run_number starts (place + length elements)) []; diff = d } ∷ []
  updates_push place starts rows [] [] t d e =
      let here : place ≡ place + 0 = omega arith in
      ap (λ n. record { time = t; row = get_or rows (run_number starts n) []; diff = d } ∷ []) here
  updates_push place starts rows [] (x ∷ diffs) t d e = absurd (omega (arith, e))
  updates_push place starts rows (s ∷ elements) [] t d e = absurd (omega (arith, e))
  updates_push place starts rows (s ∷ elements) (x ∷ diffs) t d e =
      let there : suc place + length elements ≡ place + suc (length elements) = omega arith in
      ap (λ us. record { time = s; row = get_or rows (run_number starts place) []; diff = x } ∷ us)
      (updates_push (suc place) starts rows elements diffs t d (omega (arith, e))
      ∙ ap (λ n. updates_from (suc place) starts rows elements diffs ++ record { time = t; row = get_or rows (run_number starts n) []; diff = d } ∷ []) there)

  -- the row of the last update is that of its run
  pub row_behind_is : (place : ℕ) (before : List ℤ) (starts : List ℕ) (rows : List (List ℤ)) (elements : List T) (diffs : List ℤ) → length diffs ≡ length elements → 0 < length elements → row_behind before (updates_from place starts rows elements diffs) ≡ get_or rows (run_number starts ((place + length elements) - 1)) []
  row_behind_is place before starts rows [] diffs e h = absurd (omega (arith, h))
  row_behind_is place before starts rows (t ∷ elements) [] e h = absurd (omega (arith, e))
  row_behind_is place before starts rows (t ∷ []) (d ∷ diffs) e h =
      let here : place ≡ (place + 1) - 1 = omega arith in
      ap (λ n. get_or rows (run_number starts n) []) here
  row_behind_is place before starts rows (t ∷ s ∷ elements) (d ∷ diffs) e h =
      let there : (suc place + suc (length elements)) - 1 ≡ (place + suc (suc (length elements))) - 1 = omega arith in
      row_behind_is (suc place) (get_or rows (run_number starts place) []) starts rows (s ∷ elements) diffs (omega (arith, e)) (omega arith)
      ∙ ap (λ n. get_or rows (run_number starts n) []) there

-- a run for the next update, if its row is not the last one
pub next_row : (starts : List ℕ) (rows : List (List ℤ)) (place : ℕ) (row : List ℤ) (b : Bool) → (b ≡ true → last_row rows ≡ row) → length rows ≡ length starts → All (λ s. s < place) starts → get_or (rows ++ cond b [] (row ∷ [])) (run_number (starts ++ cond b [] (place ∷ [])) place) [] ≡ row
next_row starts rows place row true last long high =
    let same : length starts - 1 ≡ length rows - 1 = omega (arith, long) in
    ap (λ rs. get_or rs (run_number (starts ++ []) place) []) (append-nil rows)
    ∙ ap (λ ss. get_or rows (run_number ss place) []) (append-nil starts)
    ∙ ap (λ n. get_or rows n []) (run_number_last starts place (All-weaker (λ s. s < place) (λ s. s ≤ place) (λ s h. omega (arith, h)) starts high) ∙ same)
    ∙ last refl
next_row starts rows place row false last long high =
    let all : All (λ s. s ≤ place) (starts ++ place ∷ []) = All-push (λ s. s ≤ place) starts place (All-weaker (λ s. s < place) (λ s. s ≤ place) (λ s h. omega (arith, h)) starts high) (omega arith) in
    let more = length_push starts place in
    let same : length (starts ++ place ∷ []) - 1 ≡ length rows = omega (arith, more, long) in
    ap (λ n. get_or (rows ++ row ∷ []) n []) (run_number_last (starts ++ place ∷ []) place all ∙ same)
    ∙ get_or_push rows row [] (length rows) refl

pub lengths_maybe : (starts : List ℕ) (rows : List (List ℤ)) (place : ℕ) (row : List ℤ) (b : Bool) → length rows ≡ length starts → length (rows ++ cond b [] (row ∷ [])) ≡ length (starts ++ cond b [] (place ∷ []))
lengths_maybe starts rows place row true e = ap length (append-nil rows) ∙ e ∙ sym (ap length (append-nil starts))
lengths_maybe starts rows place row false e = length_push rows row ∙ ap (λ n. n + 1) e ∙ sym (length_push starts place)

-- a list with a first element that is 0 has one
pub some_first : (starts : List ℕ) → get_or starts 0 1 ≡ 0 → 0 < length starts
some_first [] e = absurd (omega (arith, e))
some_first (s ∷ starts) e = omega arith

pub first_start : (place : ℕ) (b : Bool) → b ≡ false → place ≡ 0 → get_or (cond b [] (place ∷ [])) 0 1 ≡ 0
first_start place true f e = absurd (true≢false f)
first_start place false f e = e

-- a row of some columns is not one of none
pub no_row : (row : List ℤ) → 1 ≤ length row → same_row [] row ≡ false
no_row [] h = absurd (omega (arith, h))
no_row (x ∷ row) h = refl
