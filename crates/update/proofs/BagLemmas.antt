-- Bags: when a consolidated list is one, which count a row has in it, and that a bag is determined
-- by its counts.
use Rattle.std.proofs.Common.{◌≡◌, ◌≢◌, ℕ, zero, suc, ◌+◌, ◌<◌, ◌≤◌, Bool, true, false, cond, List, [], ◌∷◌, map, length, get_or, ℤ, pos, ◌+ℤ◌, refl, sym, ◌∙◌, ap, take, take_all, ltb, add-one, arith}
use Rattle.std.proofs.lemmas.Int.{ints}
use Rattle.std.proofs.lemmas.List.{get_or-map, length-map}
use Rattle.std.proofs.lemmas.List.Folds.{flat_map-map}
use borrow.Author.Tests.{ltb-true, ltb-false}
use Rattle.std.specs.Cmp.Derive.Mapped.{pointwise-map}
use Rattle.std.proofs.lemmas.List.Sorted.{searchable_from_sorted}
use Rattle.std.specs.List.{AllByRecursion, flat_map}
use Rattle.std.specs.List.Sorted.{IsStrictlySortedBy, IsNonDecreasingBy, IsPartitionPoint}
use Rattle.std.specs.Cmp.{IsTotalOrder, int_cmp_total}
use Rattle.std.specs.Cmp.Lexicographic.{slice_cmp, pointwise, lists_total, lists_ties}
use Rattle.std.specs.Cmp.Rules.{signed_items}
use Rattle.std.specs.Ordering.{int_cmp, is_eq, is_lt, ordering_reverse, ordering_index}
use Rattle.std.specs.declared.cmp.Ordering.{Ordering}
use Rattle.std.specs.declared.cmp.Ordering.TheVariants.{Less, Equal, Greater}
use Rattle.update.specs.Bags.{same_row, Entry, count_of, Alike, IsBag}
use Rattle.update.specs.Equality.{same_entry, same_bag, same_parts}
use Rattle.update.specs.Text.{entry_text, bag_text}
use Rattle.update.specs.Updates.{entry, IsConsolidated}
use Rattle.update.specs.declared.change.Update.{Update}

-- ---- lists

all_map : {X Y : Type 0} (P : Y → Type 0) (f : X → Y) (xs : List X) → AllByRecursion (λ x. P (f x)) xs → AllByRecursion P (map f xs)
all_map P f [] a = tt
all_map P f (x ∷ xs) a = (a.0, all_map P f xs a.1)

sorted_map : {X Y : Type 0} (c : Y → Y → Ordering) (f : X → Y) (xs : List X) → IsStrictlySortedBy (λ x y. c (f x) (f y)) xs → IsStrictlySortedBy c (map f xs)
unfolding IsStrictlySortedBy
sorted_map c f [] s = tt
sorted_map c f (x ∷ xs) s = (all_map (λ y. c (f x) y ≡ Less) f xs s.0, sorted_map c f xs s.1)

all_at : {X : Type 0} (P : X → Type 0) (xs : List X) (i : ℕ) (d : X) → i < length xs → AllByRecursion P xs → P (get_or xs i d)
all_at P [] i d h a = absurd (omega (arith, h))
all_at P (x ∷ xs) zero d h a = a.0
all_at P (x ∷ xs) (suc i) d h a = all_at P xs i d (omega (arith, h)) a.1

all_from : {X : Type 0} (P : X → Type 0) (xs : List X) → ((i : ℕ) (d : X) → i < length xs → P (get_or xs i d)) → AllByRecursion P xs
all_from P [] h = tt
all_from P (x ∷ xs) h = (h 0 x (omega arith), all_from P xs (λ i d l. h (suc i) d (omega (arith, l))))

all_more : {X : Type 0} (P Q : X → Type 0) → ((x : X) → P x → Q x) → (xs : List X) → AllByRecursion P xs → AllByRecursion Q xs
all_more P Q h [] a = tt
all_more P Q h (x ∷ xs) a = (h x a.0, all_more P Q h xs a.1)

-- ---- rows

abbrev by_columns : List ℤ → List ℤ → Ordering
by_columns r s = slice_cmp int_cmp r s

rows_total : IsTotalOrder by_columns
rows_total = lists_total int_cmp_total

same_row_is : (r s : List ℤ) → same_row r s ≡ is_eq (by_columns r s)
same_row_is r s = lists_ties int_cmp (λ x y. refl) r s

-- rows that compare as equal are equal
pub equal_rows : (r s : List ℤ) → by_columns r s ≡ Equal → r ≡ s
equal_rows r s e = (signed_items r s).0 (same_row_is r s ∙ ap is_eq e)

same_itself : (r : List ℤ) → same_row r r ≡ true
same_itself r = (signed_items r r).1 refl

less_differ : (r s : List ℤ) → by_columns r s ≡ Less → same_row r s ≡ false
less_differ r s e = same_row_is r s ∙ ap is_eq e

less_differ_back : (r s : List ℤ) → by_columns r s ≡ Less → same_row s r ≡ false
less_differ_back r s e = same_row_is s r ∙ ap is_eq (rows_total.antisymm s r ∙ ap ordering_reverse e)

greater_differ : (r s : List ℤ) → by_columns r s ≡ Greater → same_row r s ≡ false
greater_differ r s e = same_row_is r s ∙ ap is_eq e

-- ---- counts

counted : (b : Bool) (c n : ℤ) → b ≡ false → n ≡ pos 0 → (cond b c (pos 0) +ℤ n) ≡ pos 0
counted b c n e f = rw (e, f) refl

-- a row that no entry has has count 0
pub count_absent : (entries : List Entry) (row : List ℤ) → AllByRecursion (λ e. same_row e.row row ≡ false) entries → count_of entries row ≡ pos 0
count_absent [] row a = refl
count_absent (e ∷ entries) row a = counted _ e.count _ a.0 (count_absent entries row a.1)

here : (b : Bool) (c n : ℤ) → b ≡ true → n ≡ pos 0 → (cond b c (pos 0) +ℤ n) ≡ c
here b c n e f = rw (e, f) (omega (arith, ints))

zero_plus : (n : ℤ) → (pos 0 +ℤ n) ≡ n
zero_plus n = omega (arith, ints)

there : (b : Bool) (c n m : ℤ) → b ≡ false → n ≡ m → (cond b c (pos 0) +ℤ n) ≡ m
there b c n m e f = rw e (zero_plus n ∙ f)

abbrev by_row : Entry → Entry → Ordering
by_row a b = by_columns a.row b.row

count_first : (e : Entry) (entries : List Entry) → AllByRecursion (λ y. by_row e y ≡ Less) entries → count_of (e ∷ entries) e.row ≡ e.count
count_first e entries a =
    here _ e.count _ (same_itself e.row)
    (count_absent entries e.row (all_more (λ y. by_row e y ≡ Less) (λ y. same_row y.row e.row ≡ false) (λ y l. less_differ_back e.row y.row l) entries a))

-- the count of a row in a bag is the count of its one entry
pub count_at : (entries : List Entry) (i : ℕ) (d : Entry) → i < length entries → IsStrictlySortedBy by_row entries → count_of entries (get_or entries i d).row ≡ (get_or entries i d).count
unfolding IsStrictlySortedBy
count_at [] i d h s = absurd (omega (arith, h))
count_at (e ∷ entries) zero d h s = count_first e entries s.0
count_at (e ∷ entries) (suc i) d h s =
    let l : i < length entries = omega (arith, h) in
    there _ e.count _ _ (less_differ e.row (get_or entries i d).row (all_at (λ y. by_row e y ≡ Less) entries i d l s.0)) (count_at entries i d l s.1)

-- ---- consolidated lists at the one time

-- a consolidated list of updates at the one time is a bag
pub bag_from_consolidated : {T : Type 0} (us : List (Update T)) → IsConsolidated (λ _ _. Equal) us → IsBag (map entry us)
bag_from_consolidated us h = record {
  ascending = sorted_map by_row entry us h.ascending;
  nonzero = all_map (λ e. e.count ≢ pos 0) entry us h.nonzero;
}

-- ---- the counts determine a bag

cancel : (a b m n : ℤ) → a ≡ b → (a +ℤ m) ≡ (b +ℤ n) → m ≡ n
cancel a b m n e f = omega (arith, ints, e, f)

-- a row before all rows of a bag has count 0 in it
count_before : (row : List ℤ) (y : Entry) (ys : List Entry) → by_columns row y.row ≡ Less → AllByRecursion (λ z. by_row y z ≡ Less) ys → count_of (y ∷ ys) row ≡ pos 0
count_before row y ys e a =
    count_absent (y ∷ ys) row (
      less_differ_back row y.row e,
      all_more (λ z. by_row y z ≡ Less) (λ z. same_row z.row row ≡ false)
          (λ z l. less_differ_back row z.row (rows_total.trans row y.row z.row e l)) ys a,
    )

same_lists : (x y : Entry) (xs ys : List Entry) → x ≡ y → xs ≡ ys → x ∷ xs ≡ y ∷ ys
same_lists x y xs ys e f = cc

abbrev AllCount : List Entry → Type 0
AllCount entries = AllByRecursion (λ e. e.count ≢ pos 0) entries

bag_by_counts : (a b : List Entry) → IsStrictlySortedBy by_row a → AllCount a → IsStrictlySortedBy by_row b → AllCount b → Alike a b → a ≡ b
unfolding IsStrictlySortedBy
bag_by_counts [] [] s n t m alike = refl
bag_by_counts [] (y ∷ ys) s n t m alike = absurd (m.0 (sym (alike y.row ∙ count_first y ys t.0)))
bag_by_counts (x ∷ xs) [] s n t m alike = absurd (n.0 (sym (count_first x xs s.0) ∙ alike x.row))
bag_by_counts (x ∷ xs) (y ∷ ys) s n t m alike =
    elim (by_columns x.row y.row) as (λ o. by_columns x.row y.row ≡ o → x ∷ xs ≡ y ∷ ys) [
      | Less ↦ λ e. absurd (n.0 (sym (count_first x xs s.0) ∙ alike x.row ∙ count_before x.row y ys e t.0))
      | Equal ↦ λ e.
          let rows : x.row ≡ y.row = equal_rows x.row y.row e in
          let counts : x.count ≡ y.count = sym (count_first x xs s.0) ∙ alike x.row ∙ ap (count_of (y ∷ ys)) rows ∙ count_first y ys t.0 in
          let same : x ≡ y = same_parts x y rows counts in
          same_lists x y xs ys same
          (bag_by_counts xs ys s.1 n.1 t.1 m.1
          (λ row. cancel _ _ _ _ (ap (λ (z : Entry). cond (same_row z.row row) z.count (pos 0)) same) (alike row)))
      | Greater ↦ λ e.
          let less : by_columns y.row x.row ≡ Less = rows_total.antisymm y.row x.row ∙ ap ordering_reverse e in
          absurd (m.0 (sym (count_first y ys t.0) ∙ sym (alike y.row) ∙ count_before y.row x xs less s.0))
    ] refl

-- a bag is determined by its counts
pub bags_by_counts : (a b : List Entry) → IsBag a → IsBag b → Alike a b → a ≡ b
bags_by_counts a b g h alike = bag_by_counts a b g.ascending g.nonzero h.ascending h.nonzero alike

-- ---- the result of a search

later : (r s : List ℤ) → by_columns r s ≡ Less → is_lt (by_columns s r) ≡ false
later r s e = ap is_lt (rows_total.antisymm s r ∙ ap ordering_reverse e)

module _ {T : Type 0} where
  rows_rise : (us : List (Update T)) → IsStrictlySortedBy by_row (map entry us) → (k : ℕ) (d : Update T) → k + 1 < length us → is_lt (by_columns (get_or us (k + 1) d).row (get_or us k d).row) ≡ false
  unfolding IsStrictlySortedBy
  rows_rise [] s k d l = absurd (omega (arith, l))
  rows_rise (u ∷ []) s k d l = absurd (omega (arith, l))
  rows_rise (u ∷ v ∷ us) s zero d l = later u.row v.row s.0.0
  rows_rise (u ∷ v ∷ us) s (suc k) d l =
      let h : k + 1 < length (v ∷ us) = omega (arith, l) in
      rw add-one (rw add-one at (rows_rise (v ∷ us) s.1 k d h))

  -- if the search finds the row, then the entry found has its count
  pub count_found : (us : List (Update T)) (i : ℕ) (row : List ℤ) (d : Update T) → i < length us → IsBag (map entry us) → by_columns (get_or us i d).row row ≡ Equal → (get_or us i d).diff ≡ count_of (map entry us) row
  count_found us i row d l bag e =
      let at : get_or (map entry us) i (entry d) ≡ entry (get_or us i d) = get_or-map entry us i d (entry d) l in
      let there : i < length (map entry us) = omega (arith, l, length-map us (entry {T = T})) in
      let counts = count_at (map entry us) i (entry d) there bag.ascending in
      sym (rw (at, equal_rows (get_or us i d).row row e) at counts)

  -- if the search does not find the row, then its count is 0
  pub count_missing : (us : List (Update T)) (i : ℕ) (row : List ℤ) → IsBag (map entry us) → (IsNonDecreasingBy (λ u. ordering_index (by_columns u.row row)) us → IsPartitionPoint (λ u. by_columns u.row row ≡ Less) (λ u. by_columns u.row row ≡ Greater) us i) → pos 0 ≡ count_of (map entry us) row
  count_missing us i row bag parted =
      let point = parted (searchable_from_sorted rows_total (λ u. u.row) us row (λ k d z l. rows_rise us bag.ascending k d l)) in
      sym (count_absent (map entry us) row (all_map (λ e. same_row e.row row ≡ false) entry us (all_from (λ u. same_row u.row row ≡ false) us (differs point))))
    where
      differs : IsPartitionPoint (λ u. by_columns u.row row ≡ Less) (λ u. by_columns u.row row ≡ Greater) us i → (k : ℕ) (d : Update T) → k < length us → same_row (get_or us k d).row row ≡ false
      differs point k d l =
          elim (ltb k i) as (λ b. ltb k i ≡ b → same_row (get_or us k d).row row ≡ false) [
            | true ↦ λ e. less_differ _ row (point.0 k d (omega arith) (ltb-true k i e))
            | false ↦ λ e. greater_differ _ row (point.1 k d (ltb-false k i e) l)
          ] refl

  -- ---- equality and text, from the stored updates

  -- bags are compared entry by entry
  pub same_by_items : (us vs ls rs : List (Update T)) (xs ys : List Entry) → ls ≡ us → rs ≡ vs → map entry us ≡ xs → map entry vs ≡ ys → pointwise (λ u v. same_entry (entry u) (entry v)) ls rs ≡ same_bag xs ys
  same_by_items us vs ls rs xs ys e f g h = rw (e, f) (sym (pointwise-map entry same_entry us vs) ∙ (λ i. same_bag (g i) (h i)))

  -- a bag is printed entry by entry
  pub text_by_items : (us ls : List (Update T)) (xs : List Entry) (k : ℕ) → ls ≡ us → map entry us ≡ xs → length ls ≤ k → flat_map (λ u. entry_text (entry u)) (take k ls) ≡ bag_text xs
  text_by_items us ls xs k e g l = rw (take_all k ls l, e) (sym (flat_map-map entry_text entry us) ∙ ap bag_text g)
