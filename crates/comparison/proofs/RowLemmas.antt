-- The rows of a merge of two bags are the rows of either, and its weights are theirs.
use Rattle.std.proofs.Common.{◌≡◌, ◌≢◌, Bool, true, false, cond, List, [], ◌∷◌, map, ℤ, pos, ◌+ℤ◌, refl, sym, ◌∙◌, ap, subst, ◌⊎◌, inl, inr, ⊎_elim, arith}
use Rattle.std.proofs.lemmas.Int.{ints}
use Rattle.std.proofs.lemmas.List.Elements.{All-from_recursion, All-contains}
use Rattle.std.specs.List.{AllByRecursion}
use Rattle.std.specs.List.Sorted.{IsStrictlySortedBy}
use Rattle.std.specs.Cmp.{IsTotalOrder, int_cmp_total}
use Rattle.std.specs.Cmp.Lexicographic.{slice_cmp, lists_total, lists_ties}
use Rattle.std.specs.Cmp.Rules.{signed_items}
use Rattle.std.specs.Ordering.{int_cmp, is_eq, ordering_reverse}
use Rattle.std.specs.declared.cmp.Ordering.{Ordering}
use Rattle.std.specs.declared.cmp.Ordering.TheVariants.{Less, Equal, Greater}
use Rattle.antichain.proofs.Lists.{Among, among_contains, contains_among}
use Rattle.antichain.proofs.AntichainLemmas.{sorted_same}
use Rattle.update.specs.Bags.{same_row, Entry, IsBag, count_of}
use Rattle.update.proofs.BagLemmas.{count_absent, count_at, equal_rows}
use Rattle.comparison.specs.declared.change.Change.{Change}
use Rattle.comparison.specs.Differences.{AreRowsOfEither, change_of}
use Rattle.comparison.specs.Merges.{only_before, only_after, in_both, by_order, merged}

-- ---- rows

abbrev compare : List ℤ → List ℤ → Ordering
compare r s = slice_cmp int_cmp r s

rows_total : IsTotalOrder compare
rows_total = lists_total int_cmp_total

-- the row of an entry
abbrev row_of : Entry → List ℤ
row_of x = x.row

same_row_is : (r s : List ℤ) → same_row r s ≡ is_eq (compare r s)
same_row_is r s = lists_ties int_cmp (λ x y. refl) r s

less_differ : (r s : List ℤ) → compare r s ≡ Less → same_row r s ≡ false
less_differ r s e = same_row_is r s ∙ ap is_eq e

turned : (r s : List ℤ) (o : Ordering) → compare r s ≡ o → compare s r ≡ ordering_reverse o
turned r s o e = rows_total.antisymm s r ∙ ap ordering_reverse e

less_differ_back : (r s : List ℤ) → compare r s ≡ Less → same_row s r ≡ false
less_differ_back r s e = same_row_is s r ∙ ap is_eq (turned r s Less e)

-- ---- lists

all_more : {X : Type 0} (P Q : X → Type 0) → ((x : X) → P x → Q x) → (xs : List X) → AllByRecursion P xs → AllByRecursion Q xs
all_more P Q h [] a = tt
all_more P Q h (x ∷ xs) a = (h x a.0, all_more P Q h xs a.1)

all_both : {X : Type 0} (P Q R : X → Type 0) → ((x : X) → P x → Q x → R x) → (xs : List X) → AllByRecursion P xs → AllByRecursion Q xs → AllByRecursion R xs
all_both P Q R h [] a b = tt
all_both P Q R h (x ∷ xs) a b = (h x a.0 b.0, all_both P Q R h xs a.1 b.1)

all_map : {X Y : Type 0} (P : Y → Type 0) (f : X → Y) (xs : List X) → AllByRecursion (λ x. P (f x)) xs → AllByRecursion P (map f xs)
all_map P f [] a = tt
all_map P f (x ∷ xs) a = (a.0, all_map P f xs a.1)

-- ---- order

-- the entries come after the row
abbrev Above : List ℤ → List Entry → Type 0
Above r xs = AllByRecursion (λ x. compare r x.row ≡ Less) xs

-- so do the changes
abbrev ChangesAbove : List ℤ → List Change → Type 0
ChangesAbove r cs = AllByRecursion (λ c. compare r c.row ≡ Less) cs

-- each entry comes after those before it
abbrev Ascending : List Entry → Type 0
Ascending xs = IsStrictlySortedBy (λ a b. slice_cmp int_cmp a.row b.row) xs

above_more : (r s : List ℤ) (xs : List Entry) → compare r s ≡ Less → Above s xs → Above r xs
above_more r s xs e a = all_more (λ x. compare s x.row ≡ Less) (λ x. compare r x.row ≡ Less) (λ x l. rows_total.trans r s x.row e l) xs a

-- a row before both bags is before their merge
above_merged : (r : List ℤ) (xs ys : List Entry) → Above r xs → Above r ys → ChangesAbove r (merged xs ys)
above_merged r [] [] a b = tt
above_merged r [] (y ∷ ys) a b = (b.0, above_merged r [] ys tt b.1)
above_merged r (x ∷ xs) [] a b = (a.0, above_merged r xs [] a.1 tt)
above_merged r (x ∷ xs) (y ∷ ys) a b =
    elim (slice_cmp int_cmp x.row y.row) as (λ o. ChangesAbove r (by_order o (only_before x ∷ merged xs (y ∷ ys)) (in_both x y ∷ merged xs ys) (only_after y ∷ merged (x ∷ xs) ys))) [
      | Less ↦ (a.0, above_merged r xs (y ∷ ys) a.1 b)
      | Equal ↦ (a.0, above_merged r xs ys a.1 b.1)
      | Greater ↦ (b.0, above_merged r (x ∷ xs) ys a b.1)
    ]

abbrev RowsAscend : List Change → Type 0
RowsAscend cs = IsStrictlySortedBy compare (map (λ (c : Change). c.row) cs)

ascend_more : (c : Change) (cs : List Change) → ChangesAbove c.row cs → RowsAscend cs → RowsAscend (c ∷ cs)
unfolding IsStrictlySortedBy
ascend_more c cs a s = (all_map (λ r. compare c.row r ≡ Less) (λ (d : Change). d.row) cs a, s)

-- the rows of a merge are in order
rows_ascend : (xs ys : List Entry) → Ascending xs → Ascending ys → RowsAscend (merged xs ys)
unfolding IsStrictlySortedBy
rows_ascend [] [] s t = tt
rows_ascend [] (y ∷ ys) s t = ascend_more (only_after y) (merged [] ys) (above_merged y.row [] ys tt t.0) (rows_ascend [] ys tt t.1)
rows_ascend (x ∷ xs) [] s t = ascend_more (only_before x) (merged xs []) (above_merged x.row xs [] s.0 tt) (rows_ascend xs [] s.1 tt)
rows_ascend (x ∷ xs) (y ∷ ys) s t =
    elim (slice_cmp int_cmp x.row y.row) as (λ o. compare x.row y.row ≡ o → RowsAscend (by_order o (only_before x ∷ merged xs (y ∷ ys)) (in_both x y ∷ merged xs ys) (only_after y ∷ merged (x ∷ xs) ys))) [
      | Less ↦ λ e. ascend_more (only_before x) (merged xs (y ∷ ys)) (above_merged x.row xs (y ∷ ys) s.0 (e, above_more x.row y.row ys e t.0)) (rows_ascend xs (y ∷ ys) s.1 t)
      | Equal ↦ λ e. ascend_more (in_both x y) (merged xs ys) (above_merged x.row xs ys s.0 (subst (λ (r : List ℤ). Above r ys) (sym (equal_rows x.row y.row e)) t.0)) (rows_ascend xs ys s.1 t.1)
      | Greater ↦ λ e.
          let l = turned x.row y.row Greater e in
          ascend_more (only_after y) (merged (x ∷ xs) ys) (above_merged y.row (x ∷ xs) ys (l, above_more y.row x.row xs l s.0) t.0) (rows_ascend (x ∷ xs) ys s t.1)
    ] refl

-- ---- weights

passed_by : (b : Bool) (c n : ℤ) → b ≡ false → (cond b c (pos 0) +ℤ n) ≡ n
passed_by b c n e = rw e (omega (arith, ints))

-- an entry says nothing of a row after it
count_past : (x : Entry) (xs : List Entry) (r : List ℤ) → compare x.row r ≡ Less → count_of (x ∷ xs) r ≡ count_of xs r
count_past x xs r e = passed_by (same_row x.row r) x.count (count_of xs r) (less_differ x.row r e)

-- the first entry of a bag has all of its row's weight
count_first : (x : Entry) (xs : List Entry) → Ascending (x ∷ xs) → count_of (x ∷ xs) x.row ≡ x.count
count_first x xs s = count_at (x ∷ xs) 0 x (omega arith) s

-- a row before all entries has no weight
count_none : (r : List ℤ) (xs : List Entry) → Above r xs → count_of xs r ≡ pos 0
count_none r xs a = count_absent xs r (all_more (λ x. compare r x.row ≡ Less) (λ x. same_row x.row r ≡ false) (λ x l. less_differ_back r x.row l) xs a)

-- the weights of a change are those of its row in the bags
abbrev HasWeights : List Entry → List Entry → Change → Type 0
HasWeights xs ys c = (c.before ≡ count_of xs c.row) × (c.after ≡ count_of ys c.row)

-- entries before all changes say nothing of their weights
weights_past : (r : List ℤ) (xs ys us vs : List Entry) (cs : List Change) → ((s : List ℤ) → compare r s ≡ Less → count_of us s ≡ count_of xs s) → ((s : List ℤ) → compare r s ≡ Less → count_of vs s ≡ count_of ys s)
    → ChangesAbove r cs → AllByRecursion (HasWeights xs ys) cs → AllByRecursion (HasWeights us vs) cs
weights_past r xs ys us vs cs f g a w =
    all_both (λ c. compare r c.row ≡ Less) (HasWeights xs ys) (HasWeights us vs)
    (λ c l h. (h.0 ∙ sym (f c.row l), h.1 ∙ sym (g c.row l)))
    cs a w

-- the weights of a merge are those of the bags
weights : (xs ys : List Entry) → Ascending xs → Ascending ys → AllByRecursion (HasWeights xs ys) (merged xs ys)
unfolding IsStrictlySortedBy
weights [] [] s t = tt
weights [] (y ∷ ys) s t = (
  (refl, sym (count_first y ys t)),
  weights_past y.row [] ys [] (y ∷ ys) (merged [] ys) (λ r l. refl) (λ r l. count_past y ys r l) (above_merged y.row [] ys tt t.0) (weights [] ys tt t.1),
)
weights (x ∷ xs) [] s t = (
  (sym (count_first x xs s), refl),
  weights_past x.row xs [] (x ∷ xs) [] (merged xs []) (λ r l. count_past x xs r l) (λ r l. refl) (above_merged x.row xs [] s.0 tt) (weights xs [] s.1 tt),
)
weights (x ∷ xs) (y ∷ ys) s t =
    elim (slice_cmp int_cmp x.row y.row) as (λ o. compare x.row y.row ≡ o → AllByRecursion (HasWeights (x ∷ xs) (y ∷ ys)) (by_order o (only_before x ∷ merged xs (y ∷ ys)) (in_both x y ∷ merged xs ys) (only_after y ∷ merged (x ∷ xs) ys))) [
      | Less ↦ λ e.
          let above : Above x.row (y ∷ ys) = (e, above_more x.row y.row ys e t.0) in (
            (sym (count_first x xs s), sym (count_none x.row (y ∷ ys) above)),
            weights_past x.row xs (y ∷ ys) (x ∷ xs) (y ∷ ys) (merged xs (y ∷ ys)) (λ r l. count_past x xs r l) (λ r l. refl) (above_merged x.row xs (y ∷ ys) s.0 above) (weights xs (y ∷ ys) s.1 t),
          )
      | Equal ↦ λ e.
          let same = equal_rows x.row y.row e in (
            (sym (count_first x xs s), sym (ap (count_of (y ∷ ys)) same ∙ count_first y ys t)),
            weights_past x.row xs ys (x ∷ xs) (y ∷ ys) (merged xs ys)
                (λ r l. count_past x xs r l)
                (λ r l. count_past y ys r (ap (λ (q : List ℤ). compare q r) (sym same) ∙ l))
                (above_merged x.row xs ys s.0 (subst (λ (r : List ℤ). Above r ys) (sym same) t.0))
                (weights xs ys s.1 t.1),
          )
      | Greater ↦ λ e.
          let l = turned x.row y.row Greater e in
          let above : Above y.row (x ∷ xs) = (l, above_more y.row x.row xs l s.0) in (
            (sym (count_none y.row (x ∷ xs) above), sym (count_first y ys t)),
            weights_past y.row (x ∷ xs) ys (x ∷ xs) (y ∷ ys) (merged (x ∷ xs) ys) (λ r l. refl) (λ r l. count_past y ys r l) (above_merged y.row (x ∷ xs) ys above t.0) (weights (x ∷ xs) ys s t.1),
          )
    ] refl

same_changes : (xs ys : List Entry) (cs : List Change) → AllByRecursion (HasWeights xs ys) cs → cs ≡ map (change_of xs ys) (map (λ (c : Change). c.row) cs)
same_changes xs ys [] w = refl
same_changes xs ys (c ∷ cs) w =
    let rest = same_changes xs ys cs w.1 in
    λ i. record { row = c.row; before = w.0.0 i; after = w.0.1 i } ∷ rest i

-- a merge of two bags has their rows and weights
pub merged_changes : (xs ys : List Entry) → IsBag xs → IsBag ys → merged xs ys ≡ map (change_of xs ys) (map (λ (c : Change). c.row) (merged xs ys))
merged_changes xs ys a b = same_changes xs ys (merged xs ys) (weights xs ys a.ascending b.ascending)

-- ---- which rows

-- a change has a weight that is not 0
abbrev HasWeight : Change → Type 0
HasWeight c = (c.before ≢ pos 0) ⊎ (c.after ≢ pos 0)

abbrev NoneZero : List Entry → Type 0
NoneZero xs = AllByRecursion (λ x. x.count ≢ pos 0) xs

some_weight : (xs ys : List Entry) → NoneZero xs → NoneZero ys → AllByRecursion HasWeight (merged xs ys)
some_weight [] [] n m = tt
some_weight [] (y ∷ ys) n m = (inr m.0, some_weight [] ys tt m.1)
some_weight (x ∷ xs) [] n m = (inl n.0, some_weight xs [] n.1 tt)
some_weight (x ∷ xs) (y ∷ ys) n m =
    elim (slice_cmp int_cmp x.row y.row) as (λ o. AllByRecursion HasWeight (by_order o (only_before x ∷ merged xs (y ∷ ys)) (in_both x y ∷ merged xs ys) (only_after y ∷ merged (x ∷ xs) ys))) [
      | Less ↦ (inl n.0, some_weight xs (y ∷ ys) n.1 m)
      | Equal ↦ (inl n.0, some_weight xs ys n.1 m.1)
      | Greater ↦ (inr m.0, some_weight (x ∷ xs) ys n m.1)
    ]

-- a row with a weight is the row of some entry
counted : (xs : List Entry) (r : List ℤ) → count_of xs r ≢ pos 0 → Among r (map row_of xs)
counted [] r h = absurd (h refl)
counted (x ∷ xs) r h =
    elim (same_row x.row r) as (λ b. same_row x.row r ≡ b → Among r (map row_of (x ∷ xs))) [
      | true ↦ λ e. inl ((signed_items x.row r).0 e)
      | false ↦ λ e. inr (counted xs r (λ k. h (passed_by (same_row x.row r) x.count (count_of xs r) e ∙ k)))
    ] refl

-- the rows of a list of changes
abbrev pub rows_of : List Change → List (List ℤ)
rows_of cs = map (λ (c : Change). c.row) cs

before_merged : (xs ys : List Entry) (r : List ℤ) → Among r (map row_of xs) → Among r (rows_of (merged xs ys))
before_merged [] ys r m = absurd m
before_merged (x ∷ xs) [] r m = ⊎_elim (λ e. inl e) (λ k. inr (before_merged xs [] r k)) m
before_merged (x ∷ xs) (y ∷ ys) r m =
    elim (slice_cmp int_cmp x.row y.row) as (λ o. Among r (rows_of (by_order o (only_before x ∷ merged xs (y ∷ ys)) (in_both x y ∷ merged xs ys) (only_after y ∷ merged (x ∷ xs) ys)))) [
      | Less ↦ ⊎_elim (λ e. inl e) (λ k. inr (before_merged xs (y ∷ ys) r k)) m
      | Equal ↦ ⊎_elim (λ e. inl e) (λ k. inr (before_merged xs ys r k)) m
      | Greater ↦ inr (before_merged (x ∷ xs) ys r m)
    ]

after_merged : (xs ys : List Entry) (r : List ℤ) → Among r (map row_of ys) → Among r (rows_of (merged xs ys))
after_merged xs [] r m = absurd m
after_merged [] (y ∷ ys) r m = ⊎_elim (λ e. inl e) (λ k. inr (after_merged [] ys r k)) m
after_merged (x ∷ xs) (y ∷ ys) r m =
    elim (slice_cmp int_cmp x.row y.row) as (λ o. compare x.row y.row ≡ o → Among r (rows_of (by_order o (only_before x ∷ merged xs (y ∷ ys)) (in_both x y ∷ merged xs ys) (only_after y ∷ merged (x ∷ xs) ys)))) [
      | Less ↦ λ e. inr (after_merged xs (y ∷ ys) r m)
      | Equal ↦ λ e. ⊎_elim (λ d. inl (equal_rows x.row y.row e ∙ d)) (λ k. inr (after_merged xs ys r k)) m
      | Greater ↦ λ e. ⊎_elim (λ d. inl d) (λ k. inr (after_merged (x ∷ xs) ys r k)) m
    ] refl

-- the rows of a merge of two bags are those of either
pub rows_of_either : (xs ys : List Entry) → IsBag xs → IsBag ys → AreRowsOfEither xs ys (rows_of (merged xs ys))
rows_of_either xs ys a b = record {
  ascending = rows_ascend xs ys a.ascending b.ascending;
  each = λ r. (
    λ m.
        All-contains (Weighs) (rows_of (merged xs ys)) r
        (All-from_recursion Weighs (rows_of (merged xs ys))
        (all_map Weighs (λ (c : Change). c.row) (merged xs ys)
        (all_both (HasWeights xs ys) HasWeight (λ c. Weighs c.row)
        (λ c w h. ⊎_elim (λ n. inl (λ z. n (w.0 ∙ z))) (λ n. inr (λ z. n (w.1 ∙ z))) h)
        (merged xs ys) (weights xs ys a.ascending b.ascending) (some_weight xs ys a.nonzero b.nonzero)))) m,
    λ h.
        contains_among r (rows_of (merged xs ys))
        (⊎_elim
        (λ n. before_merged xs ys r (counted xs r n))
        (λ n. after_merged xs ys r (counted ys r n)) h),
  );
}
  where
    Weighs : List ℤ → Type 0
    Weighs r = (count_of xs r ≢ pos 0) ⊎ (count_of ys r ≢ pos 0)

-- there is one such list
pub one_list : (xs ys : List Entry) (rows others : List (List ℤ)) → AreRowsOfEither xs ys rows → AreRowsOfEither xs ys others → rows ≡ others
one_list xs ys rows others a b =
    sorted_same rows_total rows others a.ascending b.ascending
    (λ r m. among_contains r others ((b.each r).1 ((a.each r).0 (contains_among r rows m))))
    (λ r m. among_contains r rows ((a.each r).1 ((b.each r).0 (contains_among r others m))))
