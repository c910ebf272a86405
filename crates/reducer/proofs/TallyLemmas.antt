-- Tallies: their rows and counts, what a changed count adds, and that it is set back.
use Rattle.std.proofs.Common.{◌≡◌, ℕ, zero, suc, ◌<◌, ◌≤◌, Bool, true, false, cond, List, [], ◌∷◌, ◌++◌, ℤ, map, set, replicate, length, get_or, ⊎_elim, refl, sym, ap, subst, ◌∙◌, arith, IsTrue, w64, FitsSigned}
use Rattle.std.specs.Prelude.{pos, ◌+ℤ◌, slice_get, IsSomeAnd, IfSome, IfOk, Result, Ok, Err, None}
use Rattle.std.specs.Cmp.{int_cmp_total}
use Rattle.std.specs.List.{AllByRecursion, Contains, HoldsAt, list_all, dedup}
use Rattle.std.specs.List.Sorted.{IsBinarySearchResult, IsNonDecreasingBy, IsStrictlySortedBy, IsPermutation, IsSearchInRange}
use Rattle.std.specs.Cmp.Lexicographic.{slice_cmp, lists_ties, lists_total}
use Rattle.std.specs.Ordering.{int_cmp, is_eq, ordering_index}
use Rattle.std.specs.declared.cmp.Ordering.{Ordering}
use Rattle.std.specs.declared.cmp.Ordering.TheVariants.{Less, Equal, Greater}
use Rattle.std.specs.Result.{result_ok}
use Rattle.std.proofs.lemmas.Bool.{and_parts, and_from, cases_lt, true≢false}
use Rattle.std.proofs.lemmas.Int.{ints}
use Rattle.std.proofs.lemmas.List.Elements.{All-from_recursion}
use Rattle.std.proofs.lemmas.List.Filters.{All-dedup}
use Rattle.std.proofs.lemmas.List.Folds.{list_all-map}
use Rattle.std.proofs.lemmas.List.Sorted.{All-permutation}
use Rattle.std.proofs.lemmas.List.Sums.{AllPass-from_list_all, list_all-from_AllPass}
use Rattle.update.specs.Bags.{Entry, Alike, count_of, same_row, entry_of}
use Rattle.update.specs.declared.change.Update.{Update}
use Rattle.update.proofs.BagLemmas.{count_at, equal_rows}
use Rattle.plan.proofs.CountLemmas.{count_of-append, row_itself}
use Rattle.reducer.specs.declared.tally.Undone.{Undone}
use Rattle.reducer.specs.Tallies.{tallied, set_count, undone, AreInOrder}

-- ---- rows with their counts

-- there are as many entries as rows
pub tallied_length : (rows : List (List ℤ)) (counts : List ℤ) → length counts ≡ length rows → length (tallied rows counts) ≡ length rows
tallied_length [] counts h = refl
tallied_length (row ∷ rows) [] h = absurd (omega (arith, h))
tallied_length (row ∷ rows) (count ∷ counts) h = let rest = tallied_length rows counts (omega (arith, h)) in omega (arith, rest)

-- the row of an entry
pub tallied_row : (rows : List (List ℤ)) (counts : List ℤ) (i : ℕ) (row : List ℤ) → length counts ≡ length rows → i < length rows → row ≡ get_or rows i row
    → IsSomeAnd (slice_get (tallied rows counts) i) (λ e. row ≡ e.row)
tallied_row [] counts i row h l e = absurd (omega (arith, l))
tallied_row (r ∷ rows) [] i row h l e = absurd (omega (arith, h))
tallied_row (r ∷ rows) (c ∷ counts) zero row h l e = e
tallied_row (r ∷ rows) (c ∷ counts) (suc i) row h l e = tallied_row rows counts i row (omega (arith, h)) (omega (arith, l)) e

-- the count of an entry
pub tallied_count : (rows : List (List ℤ)) (counts : List ℤ) (i : ℕ) (count : ℤ) → length counts ≡ length rows → i < length rows → count ≡ get_or counts i count
    → IsSomeAnd (slice_get (tallied rows counts) i) (λ e. count ≡ e.count)
tallied_count [] counts i count h l e = absurd (omega (arith, l))
tallied_count (r ∷ rows) [] i count h l e = absurd (omega (arith, h))
tallied_count (r ∷ rows) (c ∷ counts) zero count h l e = e
tallied_count (r ∷ rows) (c ∷ counts) (suc i) count h l e = tallied_count rows counts i count (omega (arith, h)) (omega (arith, l)) e

-- the entries are in the order of their rows
pub tallied_order : (rows : List (List ℤ)) (counts : List ℤ) → IsStrictlySortedBy (slice_cmp int_cmp) rows → AreInOrder (tallied rows counts)
unfolding IsStrictlySortedBy
tallied_order [] counts s = tt
tallied_order (row ∷ rows) [] s = tt
tallied_order (row ∷ rows) (count ∷ counts) s = (later rows counts s.0, tallied_order rows counts s.1)
  where
    later : (rest : List (List ℤ)) (counts : List ℤ) → AllByRecursion (λ y. slice_cmp int_cmp row y ≡ Less) rest → AllByRecursion (λ (e : Entry). slice_cmp int_cmp row e.row ≡ Less) (tallied rest counts)
    later [] counts a = tt
    later (r ∷ rest) [] a = tt
    later (r ∷ rest) (c ∷ counts) a = (a.0, later rest counts a.1)

-- the entry of a row that a search has found
pub found_row : (rows : List (List ℤ)) (counts : List ℤ) (row : List ℤ) (r : Result ℕ ℕ) → length counts ≡ length rows → IsSearchInRange r (length rows)
    → IfOk r (HoldsAt (λ y. slice_cmp int_cmp y row ≡ Equal) rows) → IfSome (result_ok r) (λ i. IsSomeAnd (slice_get (tallied rows counts) i) (λ e. e.row ≡ row))
found_row rows counts row (Err i) even within h = tt
found_row rows counts row (Ok i) even within h =
    at rows counts i even within (equal_rows (get_or rows i row) row (h row))
  where
    at : (rows : List (List ℤ)) (counts : List ℤ) (i : ℕ) → length counts ≡ length rows → i < length rows → get_or rows i row ≡ row → IsSomeAnd (slice_get (tallied rows counts) i) (λ e. e.row ≡ row)
    at [] counts i h l e = absurd (omega (arith, l))
    at (r ∷ rows) [] i h l e = absurd (omega (arith, h))
    at (r ∷ rows) (c ∷ counts) zero h l e = e
    at (r ∷ rows) (c ∷ counts) (suc i) h l e = at rows counts i (omega (arith, h)) (omega (arith, l)) e

-- the row of an entry, by index
tallied_at : (rows : List (List ℤ)) (counts : List ℤ) (k : ℕ) (e : Entry) → length counts ≡ length rows → k < length (tallied rows counts) → (get_or (tallied rows counts) k e).row ≡ get_or rows k e.row
tallied_at [] counts k e h l = absurd (omega (arith, l))
tallied_at (r ∷ rows) [] k e h l = absurd (omega (arith, h))
tallied_at (r ∷ rows) (c ∷ counts) zero e h l = refl
tallied_at (r ∷ rows) (c ∷ counts) (suc k) e h l = tallied_at rows counts k e (omega (arith, h)) (omega (arith, l))

-- ---- a row that is not found

abbrev by_columns : List ℤ → List ℤ → Ordering
by_columns r s = slice_cmp int_cmp r s

itself_equal : (row : List ℤ) → by_columns row row ≡ Equal
itself_equal row = step (by_columns row row) (sym (lists_ties int_cmp (λ x y. refl) row row) ∙ row_itself row)
  where
    step : (o : Ordering) → is_eq o ≡ true → o ≡ Equal
    step Less h = absurd (true≢false (sym h))
    step Equal h = refl
    step Greater h = absurd (true≢false (sym h))

-- rows that rise do not fall against one row
rises : (row : List ℤ) (rows : List (List ℤ)) → IsStrictlySortedBy by_columns rows → IsNonDecreasingBy (λ y. ordering_index (by_columns y row)) rows
unfolding IsStrictlySortedBy
rises row [] s i j d le l = absurd (omega (arith, l))
rises row (r ∷ rows) s zero zero d le l = omega arith
rises row (r ∷ rows) s zero (suc j) d le l = later (get_or rows j d) (All-from_recursion (λ y. by_columns r y ≡ Less) rows s.0 j d (omega (arith, l))) (by_columns (get_or rows j d) row) refl
  where
    first : by_columns r row ≡ Less → (n : ℕ) → ordering_index (by_columns r row) ≤ n
    first e n = subst (λ (o : Ordering). ordering_index o ≤ n) (sym e) (omega arith)

    most : (o : Ordering) → ordering_index o ≤ ordering_index Greater
    most Less = omega arith
    most Equal = omega arith
    most Greater = omega arith

    later : (y : List ℤ) → by_columns r y ≡ Less → (o : Ordering) → by_columns y row ≡ o → ordering_index (by_columns r row) ≤ ordering_index (by_columns y row)
    later y h Less e = first ((lists_total int_cmp_total).trans r y row h e) (ordering_index (by_columns y row))
    later y h Equal e = first (ap (by_columns r) (sym (equal_rows y row e)) ∙ h) (ordering_index (by_columns y row))
    later y h Greater e = subst (λ (o : Ordering). ordering_index (by_columns r row) ≤ ordering_index o) (sym e) (most (by_columns r row))
rises row (r ∷ rows) s (suc i) zero d le l = absurd (omega (arith, le))
rises row (r ∷ rows) s (suc i) (suc j) d le l = rises row rows s.1 i j d (omega (arith, le)) (omega (arith, l))

-- a search that finds no place has met every row: none is the one that it looks for
pub not_found : (rows : List (List ℤ)) (counts : List ℤ) (row : List ℤ) (r : Result ℕ ℕ) → length counts ≡ length rows → IsStrictlySortedBy by_columns rows
    → IsBinarySearchResult (λ y. by_columns y row) rows r → result_ok r ≡ None → (e : Entry) → Contains (tallied rows counts) e → e.row ≡ row → ⊥
not_found rows counts row (Ok i) even s h n e c same = cc
not_found rows counts row (Err i) even s h n e c same =
    let parts = h (rises row rows s) in
    let long = tallied_length rows counts even in
    let within : c.0 < length rows = omega (arith, long, c.1) in
    let at : get_or rows c.0 e.row ≡ row = sym (tallied_at rows counts c.0 e even c.1) ∙ (ap (λ (z : Entry). z.row) c.2 ∙ same) in
    let equal : by_columns (get_or rows c.0 e.row) row ≡ Equal = ap (λ z. by_columns z row) at ∙ itself_equal row in
    ⊎_elim (λ l. less (sym equal ∙ parts.0 c.0 e.row (omega arith) l)) (λ l. greater (sym equal ∙ parts.1 c.0 e.row l within)) (cases_lt c.0 i)
  where
    less : Equal ≡ Less → ⊥
    less e = cc

    greater : Equal ≡ Greater → ⊥
    greater e = cc

-- a place of which something holds is one of the list
pub place_within : {X : Type 0} (xs : List X) (i : ℕ) (P : X → Type 0) → IsSomeAnd (slice_get xs i) P → i < length xs
place_within [] i P h = absurd h
place_within (x ∷ xs) zero P h = omega arith
place_within (x ∷ xs) (suc i) P h = let l = place_within xs i P h in omega (arith, l)

-- the count of an entry is that of its row
own_count : (es : List Entry) → AreInOrder es → (e : Entry) → Contains es e → count_of es e.row ≡ e.count
own_count es order e c = subst (λ (z : Entry). count_of es z.row ≡ z.count) c.2 (count_at es c.0 e c.1 order)

-- if the count at a place cannot take the difference, that of its row cannot
pub too_far : (es : List Entry) (i : ℕ) (row : List ℤ) (diff : ℤ) → AreInOrder es → IsSomeAnd (slice_get es i) (λ e. e.row ≡ row) → IsSomeAnd (slice_get es i) (λ e. FitsSigned w64 (e.count +ℤ diff) → ⊥)
    → (e : Entry) → Contains es e → e.row ≡ row → FitsSigned w64 (e.count +ℤ diff) → ⊥
too_far es i row diff order a b e c same fits =
    let r = at es i a b in
    r.3 (subst (λ n. FitsSigned w64 (n +ℤ diff)) (sym (own_count es order e c) ∙ (ap (count_of es) (same ∙ sym r.2) ∙ own_count es order r.0 r.1)) fits)
  where
    at : (es : List Entry) (i : ℕ) → IsSomeAnd (slice_get es i) (λ e. e.row ≡ row) → IsSomeAnd (slice_get es i) (λ e. FitsSigned w64 (e.count +ℤ diff) → ⊥)
        → (e : Entry) × Contains es e × (e.row ≡ row) × (FitsSigned w64 (e.count +ℤ diff) → ⊥)
    at [] i a b = absurd a
    at (e ∷ es) zero a b = (e, (0, omega arith, refl), a, b)
    at (e ∷ es) (suc i) a b = let r = at es i a b in let l = r.1.1 in (r.0, (suc r.1.0, omega (arith, l), r.1.2), r.2, r.3)

-- a new count in the list of counts is one in the entries
pub tallied_set : (rows : List (List ℤ)) (counts : List ℤ) (i : ℕ) (count : ℤ) → tallied rows (set counts i count) ≡ set_count i count (tallied rows counts)
tallied_set [] counts i count = refl
tallied_set (row ∷ rows) [] i count = refl
tallied_set (row ∷ rows) (c ∷ counts) zero count = refl
tallied_set (row ∷ rows) (c ∷ counts) (suc i) count = ap (λ es. entry_of row c ∷ es) (tallied_set rows counts i count)

-- beyond the entries there is no count to set
pub set_beyond : (i : ℕ) (count : ℤ) (es : List Entry) → length es ≤ i → set_count i count es ≡ es
set_beyond i count [] h = refl
set_beyond zero count (e ∷ es) h = absurd (omega (arith, h))
set_beyond (suc i) count (e ∷ es) h = ap (λ z. e ∷ z) (set_beyond i count es (omega (arith, h)))

-- ---- counts that change

here : (b : Bool) (old diff n rest : ℤ) → n ≡ old +ℤ diff → cond b n (pos 0) +ℤ rest ≡ cond b old (pos 0) +ℤ (rest +ℤ (cond b diff (pos 0) +ℤ pos 0))
here true old diff n rest h = omega (arith, ints, h)
here false old diff n rest h = omega (arith, ints)

there : (v s a d : ℤ) → s ≡ a +ℤ d → v +ℤ s ≡ (v +ℤ a) +ℤ d
there v s a d h = omega (arith, ints, h)

-- a difference added to the count of a row is one more entry
pub count_moved : (es : List Entry) (i : ℕ) (row : List ℤ) (n diff : ℤ) → IsSomeAnd (slice_get es i) (λ e. (e.row ≡ row) × (n ≡ e.count +ℤ diff)) → Alike (set_count i n es) (es ++ entry_of row diff ∷ [])
count_moved [] i row n diff h other = absurd h
count_moved (e ∷ es) zero row n diff h other =
    subst (λ r. count_of (entry_of e.row n ∷ es) other ≡ count_of (e ∷ es ++ entry_of r diff ∷ []) other) h.0
    (here (same_row e.row other) e.count diff n (count_of es other) h.1
    ∙ ap (λ z. cond (same_row e.row other) e.count (pos 0) +ℤ z) (sym (count_of-append es (entry_of e.row diff ∷ []) other)))
count_moved (e ∷ es) (suc i) row n diff h other = ap (λ z. cond (same_row e.row other) e.count (pos 0) +ℤ z) (count_moved es i row n diff h other)

-- no row comes or goes with a count
pub set_among : (p : List ℤ → Bool) (i : ℕ) (n : ℤ) (es : List Entry) → list_all (λ (e : Entry). p e.row) (set_count i n es) ≡ list_all (λ (e : Entry). p e.row) es
set_among p i n [] = refl
set_among p zero n (e ∷ es) = refl
set_among p (suc i) n (e ∷ es) = rw (set_among p i n es) refl

-- ---- setting back

-- a count that is set back is as it was
pub set_back : (es : List Entry) (i : ℕ) (old new : ℤ) → IsSomeAnd (slice_get es i) (λ e. old ≡ e.count) → set_count i old (set_count i new es) ≡ es
set_back [] i old new h = absurd h
set_back (e ∷ es) zero old new h = ap (λ n. entry_of e.row n ∷ es) h
set_back (e ∷ es) (suc i) old new h = ap (λ z. e ∷ z) (set_back es i old new h)

-- the latest note is set back first
pub undone_last : (noted : List Undone) (u : Undone) (es : List Entry) → undone (noted ++ u ∷ []) es ≡ undone noted (set_count u.place u.count es)
undone_last [] u es = refl
undone_last (v ∷ noted) u es = ap (set_count v.place v.count) (undone_last noted u es)

-- ---- a new tally

-- no row has a count yet
pub none_counted : (rows : List (List ℤ)) (n : ℕ) → Alike (tallied rows (replicate n (pos 0))) []
none_counted [] n row = refl
none_counted (r ∷ rows) zero row = refl
none_counted (r ∷ rows) (suc n) row = nothing (same_row r row) (count_of (tallied rows (replicate n (pos 0))) row) (none_counted rows n row)
  where
    nothing : (b : Bool) (rest : ℤ) → rest ≡ pos 0 → cond b (pos 0) (pos 0) +ℤ rest ≡ pos 0
    nothing true rest h = rw h refl
    nothing false rest h = rw h refl

-- a test that all rows pass
pub tallied_among : (p : List ℤ → Bool) (rows : List (List ℤ)) (counts : List ℤ) → IsTrue (list_all p rows) → IsTrue (list_all (λ (e : Entry). p e.row) (tallied rows counts))
tallied_among p [] counts h = refl
tallied_among p (row ∷ rows) [] h = refl
tallied_among p (row ∷ rows) (count ∷ counts) h =
    let parts = and_parts (p row) (list_all p rows) h in
    and_from (p row) (list_all (λ (e : Entry). p e.row) (tallied rows counts)) parts.0 (tallied_among p rows counts parts.1)

-- a test that the rows of all updates pass, after a sort that keeps each row once
pub sorted_among : {T : Type 0} (same : List ℤ → List ℤ → Bool) (p : List ℤ → Bool) (us : List (Update T)) (sorted : List (List ℤ)) → IsPermutation (map (λ u. u.row) us) sorted
    → IsTrue (list_all (λ u. p u.row) us) → IsTrue (list_all p (dedup same sorted))
sorted_among {T} same p us sorted moved h =
    let rows = map (λ (u : Update T). u.row) us in
    list_all-from_AllPass p (dedup same sorted)
    (All-dedup same (λ r. p r ≡ true) sorted
    (All-permutation (λ r. p r ≡ true) rows sorted moved (AllPass-from_list_all p rows (list_all-map p (λ (u : Update T). u.row) us ∙ h))))
