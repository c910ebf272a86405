-- If entries are inserted one by one into a list in row order, the result is the only bag with the
-- same counts.
use Rattle.std.proofs.Common.{◌≡◌, ◌≢◌, Bool, true, false, cond, List, [], ◌∷◌, ℤ, pos, ◌+ℤ◌, refl, sym, ◌∙◌, ap, arith}
use Rattle.std.proofs.lemmas.Int.{ints}
use Rattle.std.proofs.lemmas.Bool.{true≢false}
use Rattle.std.specs.List.{AllByRecursion}
use Rattle.std.specs.List.Sorted.{IsStrictlySortedBy}
use Rattle.std.specs.Cmp.{IsTotalOrder, int_cmp_total, signed_Decides}
use Rattle.std.specs.Cmp.Lexicographic.{slice_cmp, lists_total}
use Rattle.std.specs.Ordering.{int_cmp, int_eq, ordering_reverse}
use Rattle.std.specs.declared.cmp.Ordering.{Ordering}
use Rattle.std.specs.declared.cmp.Ordering.TheVariants.{Less, Equal, Greater}
use Rattle.update.specs.Bags.{same_row, Entry, count_of, Alike, IsBag}
use Rattle.update.proofs.BagLemmas.{equal_rows, bags_by_counts}
use Rattle.engines.specs.Bags.{in_front, beside, put, consolidated_bag}

abbrev by_row : Entry → Entry → Ordering
by_row a b = slice_cmp int_cmp a.row b.row

rows_total : IsTotalOrder (slice_cmp int_cmp)
rows_total = lists_total int_cmp_total

abbrev Counts : Entry → Type 0
Counts e = e.count ≢ pos 0

-- how much an entry adds to the count of a row
abbrev says : Entry → List ℤ → ℤ
says e row = cond (same_row e.row row) e.count (pos 0)

all_more : {X : Type 0} (P Q : X → Type 0) → ((x : X) → P x → Q x) → (xs : List X) → AllByRecursion P xs → AllByRecursion Q xs
all_more P Q h [] a = tt
all_more P Q h (x ∷ xs) a = (h x a.0, all_more P Q h xs a.1)

-- ---- in front

front_all : (P : Entry → Type 0) (e : Entry) (rest : List Entry) → P e → AllByRecursion P rest → AllByRecursion P (in_front e rest)
front_all P e rest p a = by_test (int_eq e.count (pos 0))
  where
    by_test : (b : Bool) → AllByRecursion P (cond b rest (e ∷ rest))
    by_test true = a
    by_test false = (p, a)

front_sorted : (e : Entry) (rest : List Entry) → AllByRecursion (λ y. by_row e y ≡ Less) rest → IsStrictlySortedBy by_row rest → IsStrictlySortedBy by_row (in_front e rest)
unfolding IsStrictlySortedBy
front_sorted e rest a s = by_test (int_eq e.count (pos 0))
  where
    by_test : (b : Bool) → IsStrictlySortedBy by_row (cond b rest (e ∷ rest))
    by_test true = s
    by_test false = (a, s)

front_counts : (e : Entry) (rest : List Entry) → AllByRecursion Counts rest → AllByRecursion Counts (in_front e rest)
front_counts e rest a = by_test (int_eq e.count (pos 0)) refl
  where
    by_test : (b : Bool) → int_eq e.count (pos 0) ≡ b → AllByRecursion Counts (cond b rest (e ∷ rest))
    by_test true t = a
    by_test false t = (λ z. true≢false (sym ((signed_Decides e.count (pos 0)).1 z) ∙ t), a)

front_says : (e : Entry) (rest : List Entry) (row : List ℤ) → count_of (in_front e rest) row ≡ (says e row +ℤ count_of rest row)
front_says e rest row = by_test (int_eq e.count (pos 0)) refl
  where
    nothing : (b : Bool) (c n : ℤ) → c ≡ pos 0 → n ≡ (cond b c (pos 0) +ℤ n)
    nothing true c n z = omega (arith, ints)
    nothing false c n z = omega (arith, ints)

    by_test : (b : Bool) → int_eq e.count (pos 0) ≡ b → count_of (cond b rest (e ∷ rest)) row ≡ (says e row +ℤ count_of rest row)
    by_test true t = nothing (same_row e.row row) e.count (count_of rest row) ((signed_Decides e.count (pos 0)).0 t)
    by_test false t = refl

-- ---- one more entry

flipped : (e x : Entry) → by_row e x ≡ Greater → by_row x e ≡ Less
flipped e x g = rows_total.antisymm x.row e.row ∙ ap ordering_reverse g

module _ (P : Entry → Type 0) (same : (x : Entry) (n : ℤ) → P x → P (record x { count = n })) where
  put_all : (e : Entry) (xs : List Entry) → P e → AllByRecursion P xs → AllByRecursion P (put e xs)
  put_all e [] p a = front_all P e [] p tt
  put_all e (x ∷ xs) p a = by_order (by_row e x) (put_all e xs p a.1)
    where
      by_order : (o : Ordering) → AllByRecursion P (put e xs) → AllByRecursion P (beside o e x xs (put e xs))
      by_order Less more = front_all P e (x ∷ xs) p a
      by_order Equal more = front_all P (record x { count = e.count +ℤ x.count }) xs (same x (e.count +ℤ x.count) a.0) a.1
      by_order Greater more = (a.0, more)

put_sorted : (e : Entry) (xs : List Entry) → IsStrictlySortedBy by_row xs → IsStrictlySortedBy by_row (put e xs)
unfolding IsStrictlySortedBy
put_sorted e [] s = front_sorted e [] tt tt
put_sorted e (x ∷ xs) s = by_order (by_row e x) refl (put_sorted e xs s.1)
  where
    by_order : (o : Ordering) → by_row e x ≡ o → IsStrictlySortedBy by_row (put e xs) → IsStrictlySortedBy by_row (beside o e x xs (put e xs))
    by_order Less l more =
        front_sorted e (x ∷ xs)
        (l, all_more (λ y. by_row x y ≡ Less) (λ y. by_row e y ≡ Less) (λ y k. rows_total.trans e.row x.row y.row l k) xs s.0)
        s
    by_order Equal q more = front_sorted (record x { count = e.count +ℤ x.count }) xs s.0 s.1
    by_order Greater g more = (put_all (λ y. by_row x y ≡ Less) (λ y n l. l) e xs (flipped e x g) s.0, more)

put_counts : (e : Entry) (xs : List Entry) → AllByRecursion Counts xs → AllByRecursion Counts (put e xs)
put_counts e [] a = front_counts e [] tt
put_counts e (x ∷ xs) a = by_order (by_row e x) (put_counts e xs a.1)
  where
    by_order : (o : Ordering) → AllByRecursion Counts (put e xs) → AllByRecursion Counts (beside o e x xs (put e xs))
    by_order Less more = front_counts e (x ∷ xs) a
    by_order Equal more = front_counts (record x { count = e.count +ℤ x.count }) xs a.1
    by_order Greater more = (a.0, more)

put_says : (e : Entry) (xs : List Entry) (row : List ℤ) → count_of (put e xs) row ≡ (says e row +ℤ count_of xs row)
put_says e [] row = front_says e [] row
put_says e (x ∷ xs) row = by_order (by_row e x) refl (put_says e xs row)
  where
    both : (b c : Bool) (m n r : ℤ) → b ≡ c → (cond c (m +ℤ n) (pos 0) +ℤ r) ≡ (cond b m (pos 0) +ℤ (cond c n (pos 0) +ℤ r))
    both true true m n r e = omega (arith, ints)
    both true false m n r e = absurd (true≢false e)
    both false true m n r e = absurd (true≢false (sym e))
    both false false m n r e = omega (arith, ints)

    by_order : (o : Ordering) → by_row e x ≡ o → count_of (put e xs) row ≡ (says e row +ℤ count_of xs row) → count_of (beside o e x xs (put e xs)) row ≡ (says e row +ℤ (says x row +ℤ count_of xs row))
    by_order Less l more = front_says e (x ∷ xs) row
    by_order Equal q more =
        front_says (record x { count = e.count +ℤ x.count }) xs row
        ∙ both (same_row e.row row) (same_row x.row row) e.count x.count (count_of xs row) (ap (λ r. same_row r row) (equal_rows e.row x.row q))
    by_order Greater g more = omega (arith, ints, more)

-- ---- all entries

-- the inserted entries are in row order
pub consolidated_bag-sorted : (entries : List Entry) → IsStrictlySortedBy by_row (consolidated_bag entries)
unfolding IsStrictlySortedBy
consolidated_bag-sorted [] = tt
consolidated_bag-sorted (e ∷ entries) = put_sorted e (consolidated_bag entries) (consolidated_bag-sorted entries)

-- no inserted entry has count 0
pub consolidated_bag-counts : (entries : List Entry) → AllByRecursion Counts (consolidated_bag entries)
consolidated_bag-counts [] = tt
consolidated_bag-counts (e ∷ entries) = put_counts e (consolidated_bag entries) (consolidated_bag-counts entries)

-- answers the clause `bag` of the_bag_of_entries
pub consolidated_bag-is_bag : (entries : List Entry) → IsBag (consolidated_bag entries)
consolidated_bag-is_bag entries = record { ascending = consolidated_bag-sorted entries; nonzero = consolidated_bag-counts entries }

-- answers the clause `alike` of the_bag_of_entries
pub consolidated_bag-alike : (entries : List Entry) → Alike (consolidated_bag entries) entries
consolidated_bag-alike [] row = refl
consolidated_bag-alike (e ∷ entries) row = put_says e (consolidated_bag entries) row ∙ ap (λ n. says e row +ℤ n) (consolidated_bag-alike entries row)

-- turns a bag that an engine found into the one that the text prints
pub consolidated_bag-only : (entries bag : List Entry) → IsBag bag → Alike bag entries → bag ≡ consolidated_bag entries
consolidated_bag-only entries bag is alike = bags_by_counts bag (consolidated_bag entries) is (consolidated_bag-is_bag entries) (λ row. alike row ∙ sym (consolidated_bag-alike entries row))
