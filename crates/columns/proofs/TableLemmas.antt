-- Rows that are kept column by column: reading one, and appending one.
use Rattle.std.proofs.Common.{◌≡◌, ℕ, zero, suc, ◌+◌, ◌<◌, ◌≤◌, List, [], ◌∷◌, ◌++◌, map, length, get_or, take, drop, set, get_or-take, get_or-set_same, get_or-set_other, length-take-le, take-take, take_all, min, ⊎_elim, ℤ, pos, refl, sym, ap, ◌∙◌, subst, true, false, arith}
use Rattle.std.specs.List.{All}
use Rattle.std.proofs.lemmas.List.Elements.{All-head, All-tail}
use Rattle.std.specs.Cmp.Lexicographic.{slice_cmp, lists_ties}
use Rattle.std.specs.Cmp.Rules.{signed_items}
use Rattle.std.specs.Ordering.{int_cmp, nat_cmp, is_ne, is_eq, ordering_then}
use Rattle.std.specs.declared.cmp.Ordering.{Ordering}
use Rattle.std.specs.declared.cmp.Ordering.TheVariants.{Less, Equal, Greater}
use Rattle.std.proofs.lemmas.List.{get_or_read, get_or_append_left, map_more, length-map, get_or-map, take-map, drop_more}
use Rattle.std.proofs.lemmas.Bool.Decides.{nat_tests}
use Rattle.std.proofs.lemmas.Bool.{cases_eq, cases_lt, true≢false, false_from_ne_true}
use Rattle.update.specs.Bags.{same_row}
use Rattle.columns.specs.Tables.{row_at, rows_from, IsTable}

module _ (columns : List (List ℤ)) where
  -- there is a row for each width
  pub rows_long : (i : ℕ) (widths : List ℕ) → length (rows_from i columns widths) ≡ length widths
  rows_long i [] = refl
  rows_long i (w ∷ widths) = ap suc (rows_long (suc i) widths)

  -- row k is what the columns have at place k
  pub rows_get : (i : ℕ) (widths : List ℕ) (k : ℕ) (d : List ℤ) → k < length widths → get_or (rows_from i columns widths) k d ≡ row_at columns (i + k) (get_or widths k 0)
  rows_get i [] k d h = absurd (omega (arith, h))
  rows_get i (w ∷ widths) zero d h =
      let here : i ≡ i + 0 = omega arith in
      ap (λ n. row_at columns n w) here
  rows_get i (w ∷ widths) (suc k) d h =
      let there : suc i + k ≡ i + suc k = omega arith in
      rows_get (suc i) widths k d (omega (arith, h)) ∙ ap (λ n. row_at columns n (get_or widths k 0)) there

  -- one more width is one more row
  pub rows_push : (i : ℕ) (widths : List ℕ) (w : ℕ) → rows_from i columns (widths ++ w ∷ []) ≡ rows_from i columns widths ++ row_at columns (i + length widths) w ∷ []
  rows_push i [] w =
      let here : i ≡ i + 0 = omega arith in
      ap (λ n. row_at columns n w ∷ []) here
  rows_push i (v ∷ widths) w =
      let there : suc i + length widths ≡ i + suc (length widths) = omega arith in
      ap (λ rows. row_at columns i v ∷ rows) (rows_push (suc i) widths w ∙ ap (λ n. rows_from (suc i) columns widths ++ row_at columns n w ∷ []) there)

-- columns that agree at the places of the rows have the same rows
pub rows_same : (columns others : List (List ℤ)) (n i : ℕ) (widths : List ℕ) → All (λ w. w ≤ n) widths → ((k w : ℕ) → k < i + length widths → w ≤ n → row_at columns k w ≡ row_at others k w) → rows_from i columns widths ≡ rows_from i others widths
rows_same columns others n i [] few same = refl
rows_same columns others n i (w ∷ widths) few same =
    let first : row_at columns i w ≡ row_at others i w = same i w (omega arith) (All-head (λ w. w ≤ n) w widths few) in
    let rest = rows_same columns others n (suc i) widths (All-tail (λ w. w ≤ n) w widths few) (λ k v h l. same k v (omega (arith, h)) l) in
    λ j. first j ∷ rest j

-- a column that is changed only at other places changes nothing at this one
pub row_at_set : (columns : List (List ℤ)) (i place width : ℕ) (column : List ℤ) → get_or column place (pos 0) ≡ get_or (get_or columns i column) place (pos 0) → row_at (set columns i column) place width ≡ row_at columns place width
row_at_set [] i place width column e = refl
row_at_set (c ∷ columns) i place zero column e = refl
row_at_set (c ∷ columns) zero place (suc width) column e = ap (λ z. z ∷ row_at columns place width) e
row_at_set (c ∷ columns) (suc i) place (suc width) column e = ap (λ row. get_or c place (pos 0) ∷ row) (row_at_set columns i place width column e)

-- columns that are appended are not part of narrow rows
pub row_at_take : (columns : List (List ℤ)) (n place width : ℕ) → width ≤ n → row_at (take n columns) place width ≡ row_at columns place width
row_at_take columns n place zero l = refl
row_at_take columns zero place (suc width) l = absurd (omega (arith, l))
row_at_take [] (suc n) place (suc width) l = refl
row_at_take (c ∷ columns) (suc n) place (suc width) l = ap (λ row. get_or c place (pos 0) ∷ row) (row_at_take columns n place width (omega (arith, l)))

-- columns that are appended change no row
pub rows_widened : (columns more : List (List ℤ)) (widths : List ℕ) → All (λ w. w ≤ length columns) widths → take (length columns) more ≡ columns → rows_from 0 more widths ≡ rows_from 0 columns widths
rows_widened columns more widths within same =
    rows_same more columns (length columns) 0 widths within (λ k w h l. sym (row_at_take more (length columns) k w l) ∙ ap (λ cs. row_at cs k w) same)

-- what is put into the columns behind the rows changes no row
pub rows_behind : (columns others : List (List ℤ)) (widths : List ℕ) (n : ℕ) → All (λ w. w ≤ n) widths → ((k w : ℕ) → k < length widths → row_at others k w ≡ row_at columns k w) → rows_from 0 others widths ≡ rows_from 0 columns widths
rows_behind columns others widths n within kept =
    rows_same others columns n 0 widths within (λ k w h l. kept k w (omega (arith, h)))

module _ (columns : List (List ℤ)) (i height : ℕ) (old more new : List ℤ) where
  -- what is put into a column from a place on changes nothing at the places before it
  pub row_kept : i < length columns → old ≡ get_or columns i old → height ≤ length old → new ≡ take height old ++ more → (place width : ℕ) → place < height → row_at (set columns i new) place width ≡ row_at columns place width
  row_kept inside read long put place width l =
      let cut = length-take-le height old long in
      let same : get_or new place (pos 0) ≡ get_or old place (pos 0) = ap (λ c. get_or c place (pos 0)) put ∙ get_or_append_left (take height old) more (pos 0) place (omega (arith, cut, l)) ∙ get_or-take height old place (pos 0) l in
      row_at_set columns i place width new (same ∙ ap (λ c. get_or c place (pos 0)) (get_or_read columns i old inside read new))

-- one more column has the row's item at the place
pub item_put : (columns : List (List ℤ)) (i height : ℕ) (new row : List ℤ) → i < length columns → get_or new height (pos 0) ≡ get_or row i (pos 0) → ((c : ℕ) (d : List ℤ) → c < i → get_or (get_or columns c d) height (pos 0) ≡ get_or row c (pos 0)) → (c : ℕ) (d : List ℤ) → c < i + 1 → get_or (get_or (set columns i new) c d) height (pos 0) ≡ get_or row c (pos 0)
item_put columns i height new row inside put before c d l =
    ⊎_elim
    (λ e. ap (λ n. get_or (get_or (set columns i new) n d) height (pos 0)) e ∙ ap (λ column. get_or column height (pos 0)) (get_or-set_same columns i new d inside) ∙ put ∙ ap (λ n. get_or row n (pos 0)) (sym e))
    (λ ne. ap (λ column. get_or column height (pos 0)) (get_or-set_other columns i c new d ne) ∙ before c d (omega (arith, l, ne)))
    (cases_eq c i)

-- the row that was put into all columns at a place
pub row_put : (columns : List (List ℤ)) (place : ℕ) (row : List ℤ) → length row ≤ length columns → ((i : ℕ) (d : List ℤ) → i < length columns → get_or (get_or columns i d) place (pos 0) ≡ get_or row i (pos 0)) → row_at columns place (length row) ≡ row
row_put columns place [] l put = refl
row_put [] place (x ∷ row) l put = absurd (omega (arith, l))
row_put (c ∷ columns) place (x ∷ row) l put =
    let first : get_or c place (pos 0) ≡ x = put 0 c (omega arith) in
    let rest = row_put columns place row (omega (arith, l)) (λ i d h. put (suc i) d (omega (arith, h))) in
    λ j. first j ∷ rest j

-- one more column is one more item
pub row_at_more : (columns : List (List ℤ)) (place i : ℕ) (d : List ℤ) → i < length columns → row_at columns place (i + 1) ≡ row_at columns place i ++ get_or (get_or columns i d) place (pos 0) ∷ []
row_at_more columns place i d h = map_more (λ column. get_or column place (pos 0)) columns i d h

-- a row is as long as it is wide
pub row_at_long : (columns : List (List ℤ)) (place width : ℕ) → width ≤ length columns → length (row_at columns place width) ≡ width
row_at_long columns place width l = length-map (take width columns) (λ column. get_or column place (pos 0)) ∙ length-take-le width columns l

-- the item of a row in a column
pub row_at_get : (columns : List (List ℤ)) (place width i : ℕ) (d : List ℤ) (e : ℤ) → width ≤ length columns → i < width → get_or (row_at columns place width) i e ≡ get_or (get_or columns i d) place (pos 0)
row_at_get columns place width i d e l h =
    let long = length-take-le width columns l in
    get_or-map (λ column. get_or column place (pos 0)) (take width columns) i d e (omega (arith, h, long)) ∙ ap (λ column. get_or column place (pos 0)) (get_or-take width columns i d h)

-- the beginning of a row is a narrower row
pub row_at_cut : (columns : List (List ℤ)) (place width n m : ℕ) → width ≤ length columns → m ≡ min width n → take n (row_at columns place width) ≡ row_at columns place m
row_at_cut columns place width n m l e =
    let long = row_at_long columns place width l in
    ⊎_elim
    (λ h.
    let same : n ≡ m = omega (arith, h, e) in
    take-map (λ column. get_or column place (pos 0)) n (take width columns)
    ∙ ap (map (λ column. get_or column place (pos 0))) (take-take n width columns (omega (arith, h)))
    ∙ ap (row_at columns place) same)
    (λ h.
    let same : width ≡ m = omega (arith, h, e) in
    take_all n (row_at columns place width) (omega (arith, h, long)) ∙ ap (row_at columns place) same)
    (cases_lt n width)

-- one step of a comparison, column by column
pub compare_step : (row key : List ℤ) (i : ℕ) → i < length row → i < length key → slice_cmp int_cmp (drop i row) (drop i key) ≡ ordering_then (int_cmp (get_or row i (pos 0)) (get_or key i (pos 0))) (slice_cmp int_cmp (drop (i + 1) row) (drop (i + 1) key))
compare_step row key i g h =
    let left = drop_more row i (pos 0) g in
    let right = drop_more key i (pos 0) h in
    λ j. slice_cmp int_cmp (left j) (right j)

-- a comparison goes on where two columns are equal, and ends where they are not
pub then_unequal : (o rest : Ordering) → is_ne o ≡ true → ordering_then o rest ≡ o
then_unequal Less rest e = refl
then_unequal Equal rest e = absurd (true≢false (sym e))
then_unequal Greater rest e = refl

pub then_equal : (o rest : Ordering) → is_ne o ≡ false → ordering_then o rest ≡ rest
then_equal Less rest e = absurd (true≢false e)
then_equal Equal rest e = refl
then_equal Greater rest e = absurd (true≢false e)

-- a step of the comparison of a row with a key
pub compare_at : (columns : List (List ℤ)) (place width i : ℕ) (column key : List ℤ) (order : Ordering) → width ≤ length columns → width ≤ length key → i < width → column ≡ get_or columns i column → order ≡ int_cmp (get_or column place (pos 0)) (get_or key i (pos 0)) → slice_cmp int_cmp (drop i (row_at columns place width)) (drop i key) ≡ ordering_then order (slice_cmp int_cmp (drop (i + 1) (row_at columns place width)) (drop (i + 1) key))
compare_at columns place width i column key order l m h read e =
    let row = row_at columns place width in
    let long = row_at_long columns place width l in
    let rest = slice_cmp int_cmp (drop (i + 1) row) (drop (i + 1) key) in
    let item : get_or row i (pos 0) ≡ get_or column place (pos 0) = row_at_get columns place width i column (pos 0) l h ∙ ap (λ c. get_or c place (pos 0)) (sym read) in
    compare_step row key i (omega (arith, h, long)) (omega (arith, h, m))
    ∙ ap (λ x. ordering_then (int_cmp x (get_or key i (pos 0))) rest) item
    ∙ ap (λ o. ordering_then o rest) (sym e)

-- if the columns of a row are the first ones of a key, then their numbers are compared
pub compare_end : (key : List ℤ) (width : ℕ) → width ≤ length key → slice_cmp int_cmp [] (drop width key) ≡ nat_cmp width (length key)
compare_end [] zero l = grind (arith, nat_tests)
compare_end (x ∷ key) zero l = grind (arith, nat_tests)
compare_end [] (suc width) l = absurd (omega (arith, l))
compare_end (x ∷ key) (suc width) l =
    let rest = compare_end key width (omega (arith, l)) in
    let same : nat_cmp width (length key) ≡ nat_cmp (suc width) (suc (length key)) = grind (arith, nat_tests) in
    rest ∙ same

-- if all columns that two rows share are equal, then their widths are compared
pub compare_widths : (m : ℕ) (row other : List ℤ) → m ≡ min (length row) (length other) → slice_cmp int_cmp (drop m row) (drop m other) ≡ nat_cmp (length row) (length other)
compare_widths zero [] [] e = grind (arith, nat_tests)
compare_widths zero [] (y ∷ other) e = grind (arith, nat_tests)
compare_widths zero (x ∷ row) [] e = grind (arith, nat_tests)
compare_widths zero (x ∷ row) (y ∷ other) e = absurd (omega (arith, e))
compare_widths (suc m) [] other e = absurd (omega (arith, e))
compare_widths (suc m) (x ∷ row) [] e = absurd (omega (arith, e))
compare_widths (suc m) (x ∷ row) (y ∷ other) e =
    let rest = compare_widths m row other (omega (arith, e)) in
    let same : nat_cmp (length row) (length other) ≡ nat_cmp (suc (length row)) (suc (length other)) = grind (arith, nat_tests) in
    rest ∙ same

-- a step of the comparison of two rows, whose items were read
pub compare_items : (row other : List ℤ) (i : ℕ) (x y : ℤ) (order : Ordering) → i < length row → i < length other → get_or row i (pos 0) ≡ x → get_or other i (pos 0) ≡ y → order ≡ int_cmp x y → slice_cmp int_cmp (drop i row) (drop i other) ≡ ordering_then order (slice_cmp int_cmp (drop (i + 1) row) (drop (i + 1) other))
compare_items row other i x y order g h left right e =
    let rest = slice_cmp int_cmp (drop (i + 1) row) (drop (i + 1) other) in
    compare_step row other i g h ∙ (λ j. ordering_then (int_cmp (left j) (right j)) rest) ∙ ap (λ o. ordering_then o rest) (sym e)

-- what is known of one row of a table
module _ (columns : List (List ℤ)) (widths : List ℕ) (rows : List (List ℤ)) (number w : ℕ) (table : IsTable columns widths) (view : rows_from 0 columns widths ≡ rows) (inside : number < length rows) (read : w ≡ get_or widths number w) where
  number_inside : number < length widths
  number_inside =
      let long = sym (rows_long columns 0 widths) ∙ ap length view in
      omega (arith, long, inside)

  -- it has at least one column
  pub width_some : 1 ≤ w
  width_some = subst (λ n. 1 ≤ n) (sym read) (table.some number w number_inside)

  -- it has at most eight
  pub width_few : w ≤ 8
  width_few = subst (λ n. n ≤ 8) (sym read) (table.few number w number_inside)

  -- all of them are there
  pub width_within : w ≤ length columns
  width_within = subst (λ n. n ≤ length columns) (sym read) (table.within number w number_inside)

  -- each of them has an item for the row
  pub column_long : (i : ℕ) (column : List ℤ) → i < w → column ≡ get_or columns i column → number < length column
  column_long i column h e =
      let within = width_within in
      let long : length widths ≤ length column = subst (λ c. length widths ≤ length c) (sym e) (table.long i column (omega (arith, h, within))) in
      let number = number_inside in
      omega (arith, long, number)

  -- it is what they have at its place
  pub row_is : get_or rows number [] ≡ row_at columns number w
  row_is = sym (ap (λ r. get_or r number []) view) ∙ rows_get columns 0 widths number [] number_inside ∙ (λ j. row_at columns (zero_add j) (width j)) where
    zero_add : 0 + number ≡ number
    zero_add = omega arith

    width : get_or widths number 0 ≡ w
    width = sym (get_or_read widths number w number_inside read 0)

  -- its item in a column is what the column has at its place
  pub row_item : (i : ℕ) (column : List ℤ) → i < w → column ≡ get_or columns i column → get_or (get_or rows number []) i (pos 0) ≡ get_or column number (pos 0)
  row_item i column h e =
      ap (λ r. get_or r i (pos 0)) row_is
      ∙ row_at_get columns number w i column (pos 0) width_within h
      ∙ ap (λ c. get_or c number (pos 0)) (sym e)

  -- its beginning, as far as the key goes, is what the first columns have
  pub row_begins : (key : List ℤ) (m : ℕ) → m ≡ min w (length key) → take (length key) (get_or rows number []) ≡ row_at columns number m
  row_begins key m e = ap (take (length key)) row_is ∙ row_at_cut columns number w (length key) m width_within e

  -- it is as long as it is wide
  pub row_long : length (get_or rows number []) ≡ w
  row_long = ap length row_is ∙ row_at_long columns number w width_within

-- a row of the same width as another one is that one if their comparison says so
pub same_by_comparison : (row other : List ℤ) → length row ≡ length other → is_eq (slice_cmp int_cmp (take (length other) row) other) ≡ same_row row other
same_by_comparison row other e =
    ap (λ r. is_eq (slice_cmp int_cmp r other)) (take_all (length other) row (omega (arith, e)))
    ∙ sym (lists_ties int_cmp (λ x y. refl) row other)

-- rows of two widths differ
pub differ_by_width : (row other : List ℤ) → (length row ≡ length other → ⊥) → same_row row other ≡ false
differ_by_width row other ne =
    false_from_ne_true (same_row row other) (λ t. ne (ap length ((signed_items row other).0 t)))
