-- One step of the merge, from what the code has tested; and how many lines with a minus and a plus
-- a merge has at most.
use Rattle.std.proofs.Common.{◌≡◌, ℕ, zero, suc, ◌+◌, ◌<◌, ◌≤◌, Bool, true, false, cond, not, ◌&&◌, List, [], ◌∷◌, length, drop, slice_get, ℤ, refl, sym, ◌∙◌, ap, add-one, arith}
use Rattle.std.proofs.lemmas.List.{drop_all}
use Rattle.std.proofs.lemmas.List.Sums.{sum_by-cons}
use Rattle.std.specs.Prelude.{IsSomeAnd}
use Rattle.std.specs.List.{count_by}
use Rattle.std.specs.Cmp.Lexicographic.{slice_cmp}
use Rattle.std.specs.Ordering.{int_cmp}
use Rattle.std.specs.declared.cmp.Ordering.{Ordering}
use Rattle.std.specs.declared.cmp.Ordering.TheVariants.{Less, Equal, Greater}
use Rattle.update.specs.Bags.{Entry}
use Rattle.comparison.specs.declared.change.Change.{Change}
use Rattle.comparison.specs.Differences.{is_removal, is_addition}
use Rattle.comparison.specs.Merges.{only_before, only_after, in_both, heads_order, by_order, merged}

-- the element at an index comes first in what is left from there on
first_left : {X : Type 0} (P : X → Type 0) (xs : List X) (i : ℕ) → IsSomeAnd (slice_get xs i) P → (x : X) × (drop i xs ≡ x ∷ drop (suc i) xs) × P x
first_left P [] i h = absurd h
first_left P (x ∷ xs) zero h = (x, refl, h)
first_left P (x ∷ xs) (suc i) h = first_left P xs i h

drop_here : {X : Type 0} (P : X → Type 0) (xs : List X) (i : ℕ) → IsSomeAnd (slice_get xs i) P → (x : X) × (drop i xs ≡ x ∷ drop (i + 1) xs) × P x
drop_here P xs i h = rw add-one (first_left P xs i h)

one_left : {X : Type 0} (xs : List X) (i : ℕ) → i < length xs → (x : X) × (rest : List X) × (drop i xs ≡ x ∷ rest)
one_left [] i h = absurd (omega (arith, h))
one_left (x ∷ xs) zero h = (x, xs, refl)
one_left (x ∷ xs) (suc i) h = one_left xs i (omega (arith, h))

by_less : (o : Ordering) (a b c : List Change) → o ≡ Less → by_order o a b c ≡ a
by_less o a b c e = rw e refl

by_equal : (o : Ordering) (a b c : List Change) → o ≡ Equal → by_order o a b c ≡ b
by_equal o a b c e = rw e refl

by_greater : (o : Ordering) (a b c : List Change) → o ≡ Greater → by_order o a b c ≡ c
by_greater o a b c e = rw e refl

merged_less : (x : Entry) (xs ys : List Entry) → heads_order (x ∷ xs) ys ≡ Less → merged (x ∷ xs) ys ≡ only_before x ∷ merged xs ys
merged_less x xs [] e = refl
merged_less x xs (y ∷ ys) e = by_less _ _ _ _ e

merged_equal : (x y : Entry) (xs ys : List Entry) → heads_order (x ∷ xs) (y ∷ ys) ≡ Equal → merged (x ∷ xs) (y ∷ ys) ≡ in_both x y ∷ merged xs ys
merged_equal x y xs ys e = by_equal _ _ _ _ e

merged_greater : (xs : List Entry) (y : Entry) (ys : List Entry) → heads_order xs (y ∷ ys) ≡ Greater → merged xs (y ∷ ys) ≡ only_after y ∷ merged xs ys
merged_greater [] y ys e = refl
merged_greater (x ∷ xs) y ys e = by_greater _ _ _ _ e

-- answers `order` where the first bag has no row left
pub greater_at_end : (xs ys : List Entry) (i j : ℕ) → length xs ≤ i → j < length ys → Greater ≡ heads_order (drop i xs) (drop j ys)
greater_at_end xs ys i j h l =
    let none = drop_all i xs h in
    let some = one_left ys j l in
    rw (none, some.2) refl

-- answers `order` where both have one
pub order_here : (xs ys : List Entry) (i j : ℕ) (r s : List ℤ) → IsSomeAnd (slice_get xs i) (λ x. r ≡ x.row) → IsSomeAnd (slice_get ys j) (λ y. s ≡ y.row) → slice_cmp int_cmp r s ≡ heads_order (drop i xs) (drop j ys)
order_here xs ys i j r s h k =
    let left = drop_here (λ x. r ≡ x.row) xs i h in
    let right = drop_here (λ y. s ≡ y.row) ys j k in
    (λ k. slice_cmp int_cmp (left.2 k) (right.2 k)) ∙ (λ k. heads_order (sym left.1 k) (sym right.1 k))

-- answers `next` where the first bag alone has the next row
pub next_less : (xs ys : List Entry) (i j : ℕ) (c : Change) → Less ≡ heads_order (drop i xs) (drop j ys) → IsSomeAnd (slice_get xs i) (λ x. c ≡ only_before x) → merged (drop i xs) (drop j ys) ≡ c ∷ merged (drop (i + 1) xs) (drop j ys)
next_less xs ys i j c o h =
    let here = drop_here (λ x. c ≡ only_before x) xs i h in
    let rest = drop j ys in
    ap (λ (zs : List Entry). merged zs rest) here.1
    ∙ merged_less here.0 (drop (i + 1) xs) rest (ap (λ (zs : List Entry). heads_order zs rest) (sym here.1) ∙ sym o)
    ∙ ap (λ (d : Change). d ∷ merged (drop (i + 1) xs) rest) (sym here.2)

-- the same where the second has it alone
pub next_greater : (xs ys : List Entry) (i j : ℕ) (c : Change) → Greater ≡ heads_order (drop i xs) (drop j ys) → IsSomeAnd (slice_get ys j) (λ y. c ≡ only_after y) → merged (drop i xs) (drop j ys) ≡ c ∷ merged (drop i xs) (drop (j + 1) ys)
next_greater xs ys i j c o h =
    let here = drop_here (λ y. c ≡ only_after y) ys j h in
    let rest = drop i xs in
    ap (λ (zs : List Entry). merged rest zs) here.1
    ∙ merged_greater rest here.0 (drop (j + 1) ys) (ap (λ (zs : List Entry). heads_order rest zs) (sym here.1) ∙ sym o)
    ∙ ap (λ (d : Change). d ∷ merged rest (drop (j + 1) ys)) (sym here.2)

-- the same where both have it
pub next_equal : (xs ys : List Entry) (i j : ℕ) (c : Change) → Equal ≡ heads_order (drop i xs) (drop j ys) → IsSomeAnd (slice_get xs i) (λ x. IsSomeAnd (slice_get ys j) (λ y. c ≡ in_both x y)) → merged (drop i xs) (drop j ys) ≡ c ∷ merged (drop (i + 1) xs) (drop (j + 1) ys)
next_equal xs ys i j c o h =
    let left = drop_here (λ x. IsSomeAnd (slice_get ys j) (λ y. c ≡ in_both x y)) xs i h in
    let right = drop_here (λ y. c ≡ in_both left.0 y) ys j left.2 in
    (λ k. merged (left.1 k) (right.1 k))
    ∙ merged_equal left.0 right.0 (drop (i + 1) xs) (drop (j + 1) ys) ((λ k. heads_order (sym left.1 k) (sym right.1 k)) ∙ sym o)
    ∙ ap (λ (d : Change). d ∷ merged (drop (i + 1) xs) (drop (j + 1) ys)) (sym right.2)

-- ---- how many lines there are

at_most_one : (b : Bool) → cond b 1 0 ≤ 1
at_most_one true = omega arith
at_most_one false = omega arith

never : (b : Bool) → (not b && false) ≡ false
never true = refl
never false = refl

more_lines : (p : Change → Bool) (c : Change) (cs : List Change) (n : ℕ) → count_by p cs ≤ n → count_by p (c ∷ cs) ≤ suc n
more_lines p c cs n h = omega (arith, h, sum_by-cons (λ (d : Change). cond (p d) 1 0) c cs, at_most_one (p c))

as_many_lines : (p : Change → Bool) (c : Change) (cs : List Change) (n : ℕ) → p c ≡ false → count_by p cs ≤ n → count_by p (c ∷ cs) ≤ n
as_many_lines p c cs n e h = omega (arith, h, sum_by-cons (λ (d : Change). cond (p d) 1 0) c cs, ap {B = ℕ} (λ b. cond b 1 0) e)

-- there are no more lines with a minus than rows in the first bag
pub removals_fit : (xs ys : List Entry) → count_by is_removal (merged xs ys) ≤ length xs
removals_fit [] [] = omega arith
removals_fit [] (y ∷ ys) = as_many_lines is_removal (only_after y) (merged [] ys) 0 (never _) (removals_fit [] ys)
removals_fit (x ∷ xs) [] = more_lines is_removal (only_before x) (merged xs []) (length xs) (removals_fit xs [])
removals_fit (x ∷ xs) (y ∷ ys) =
    elim (slice_cmp int_cmp x.row y.row) as (λ o. count_by is_removal (by_order o (only_before x ∷ merged xs (y ∷ ys)) (in_both x y ∷ merged xs ys) (only_after y ∷ merged (x ∷ xs) ys)) ≤ suc (length xs)) [
      | Less ↦ more_lines is_removal (only_before x) (merged xs (y ∷ ys)) (length xs) (removals_fit xs (y ∷ ys))
      | Equal ↦ more_lines is_removal (in_both x y) (merged xs ys) (length xs) (removals_fit xs ys)
      | Greater ↦ as_many_lines is_removal (only_after y) (merged (x ∷ xs) ys) (suc (length xs)) (never _) (removals_fit (x ∷ xs) ys)
    ]

-- and no more with a plus than rows in the second
pub additions_fit : (xs ys : List Entry) → count_by is_addition (merged xs ys) ≤ length ys
additions_fit [] [] = omega arith
additions_fit [] (y ∷ ys) = more_lines is_addition (only_after y) (merged [] ys) (length ys) (additions_fit [] ys)
additions_fit (x ∷ xs) [] = as_many_lines is_addition (only_before x) (merged xs []) 0 (never _) (additions_fit xs [])
additions_fit (x ∷ xs) (y ∷ ys) =
    elim (slice_cmp int_cmp x.row y.row) as (λ o. count_by is_addition (by_order o (only_before x ∷ merged xs (y ∷ ys)) (in_both x y ∷ merged xs ys) (only_after y ∷ merged (x ∷ xs) ys)) ≤ suc (length ys)) [
      | Less ↦ as_many_lines is_addition (only_before x) (merged xs (y ∷ ys)) (suc (length ys)) (never _) (additions_fit xs (y ∷ ys))
      | Equal ↦ more_lines is_addition (in_both x y) (merged xs ys) (length ys) (additions_fit xs ys)
      | Greater ↦ more_lines is_addition (only_after y) (merged (x ∷ xs) ys) (length ys) (additions_fit (x ∷ xs) ys)
    ]
