-- Sums over entries: a sum of values that are additive in the counts depends only on the count of
-- each row.
use Rattle.std.proofs.Common.{◌≡◌, ℕ, zero, suc, ◌≤◌, Bool, true, false, cond, not, List, [], ◌∷◌, ◌++◌, map, length, refl, ap, sym, ◌∙◌, arith}
use Rattle.std.specs.Prelude.{ℤ, pos, negsuc, ◌+ℤ◌, ◌-ℤ◌, ◌*ℤ◌, neg_ℤ}
use Rattle.std.specs.List.{filter, flat_map}
use Rattle.std.specs.Cmp.Rules.{signed_items}
use Rattle.std.proofs.lemmas.Int.{ints}
use Rattle.std.proofs.Math.IntN.{*ℤ_comm, zero-*ℤ, suc_ℤ-*ℤ, pred_ℤ-*ℤ}
use Rattle.antichain.proofs.Lists.{filter_shorter}
use Rattle.update.specs.Bags.{Entry, Alike, count_of, same_row, total_by}
use Rattle.update.proofs.SumLemmas.{total_by-same, total_by-negate, total_by-append, total_by-map, total_by-filter, total_by-split}
use Rattle.plan.specs.Operators.{negated_entry}

-- ---- rows

-- rows that compare as equal are equal
pub row_same : (row other : List ℤ) → same_row row other ≡ true → row ≡ other
row_same row other h = (signed_items row other).0 h

-- a row compares equal to itself
pub row_itself : (row : List ℤ) → same_row row row ≡ true
row_itself row = (signed_items row row).1 refl

-- ---- products

times_add_zero : (m n : ℤ) → pos 0 *ℤ (m +ℤ n) ≡ (pos 0 *ℤ m) +ℤ (pos 0 *ℤ n)
times_add_zero m n =
    let a = zero-*ℤ (m +ℤ n) in
    let b = zero-*ℤ m in
    let c = zero-*ℤ n in
    omega (arith, ints)

-- a product distributes over a sum on its right
pub times_add : (x m n : ℤ) → x *ℤ (m +ℤ n) ≡ (x *ℤ m) +ℤ (x *ℤ n)
times_add (pos zero) m n = times_add_zero m n
times_add (pos (suc k)) m n =
    let h = times_add (pos k) m n in
    let a : pos (suc k) *ℤ (m +ℤ n) ≡ (pos k *ℤ (m +ℤ n)) +ℤ (m +ℤ n) = suc_ℤ-*ℤ (pos k) (m +ℤ n) in
    let b : pos (suc k) *ℤ m ≡ (pos k *ℤ m) +ℤ m = suc_ℤ-*ℤ (pos k) m in
    let c : pos (suc k) *ℤ n ≡ (pos k *ℤ n) +ℤ n = suc_ℤ-*ℤ (pos k) n in
    omega (arith, ints)
times_add (negsuc zero) m n =
    let h : pos zero *ℤ (m +ℤ n) ≡ (pos zero *ℤ m) +ℤ (pos zero *ℤ n) = times_add_zero m n in
    let a : negsuc zero *ℤ (m +ℤ n) ≡ (pos zero *ℤ (m +ℤ n)) -ℤ (m +ℤ n) = pred_ℤ-*ℤ (pos zero) (m +ℤ n) in
    let b : negsuc zero *ℤ m ≡ (pos zero *ℤ m) -ℤ m = pred_ℤ-*ℤ (pos zero) m in
    let c : negsuc zero *ℤ n ≡ (pos zero *ℤ n) -ℤ n = pred_ℤ-*ℤ (pos zero) n in
    omega (arith, ints)
times_add (negsuc (suc k)) m n =
    let h = times_add (negsuc k) m n in
    let a : negsuc (suc k) *ℤ (m +ℤ n) ≡ (negsuc k *ℤ (m +ℤ n)) -ℤ (m +ℤ n) = pred_ℤ-*ℤ (negsuc k) (m +ℤ n) in
    let b : negsuc (suc k) *ℤ m ≡ (negsuc k *ℤ m) -ℤ m = pred_ℤ-*ℤ (negsuc k) m in
    let c : negsuc (suc k) *ℤ n ≡ (negsuc k *ℤ n) -ℤ n = pred_ℤ-*ℤ (negsuc k) n in
    omega (arith, ints)

-- a product distributes over a sum on its left
pub add_times : (m n x : ℤ) → (m +ℤ n) *ℤ x ≡ (m *ℤ x) +ℤ (n *ℤ x)
add_times m n x = *ℤ_comm (m +ℤ n) x ∙ (times_add x m n ∙ rw (*ℤ_comm x m, *ℤ_comm x n) refl)

-- ---- a number if a test holds, and 0 otherwise

-- either way the number is 0
pub when_zero : (b : Bool) → cond b (pos 0) (pos 0) ≡ pos 0
when_zero true = refl
when_zero false = refl

-- such a choice distributes over addition
pub when_add : (b : Bool) (m n : ℤ) → cond b (m +ℤ n) (pos 0) ≡ cond b m (pos 0) +ℤ cond b n (pos 0)
when_add true m n = refl
when_add false m n = refl

-- a choice made for every value by the same test can be made once, for the total
pub total_by-when : {X : Type 0} (b : Bool) (f : X → ℤ) (xs : List X) → total_by (λ x. cond b (f x) (pos 0)) xs ≡ cond b (total_by f xs) (pos 0)
total_by-when b f [] = sym (when_zero b)
total_by-when b f (x ∷ xs) = ap (λ v. cond b (f x) (pos 0) +ℤ v) (total_by-when b f xs) ∙ sym (when_add b (f x) (total_by f xs))

-- a total over a flat map is the total of the totals of its lists
pub total_by-flat_map : {X Y : Type 0} (f : Y → ℤ) (g : X → List Y) (xs : List X) → total_by f (flat_map g xs) ≡ total_by (λ x. total_by f (g x)) xs
total_by-flat_map f g [] = refl
total_by-flat_map f g (x ∷ xs) = total_by-append f (g x) (flat_map g xs) ∙ ap (λ v. total_by f (g x) +ℤ v) (total_by-flat_map f g xs)

-- ---- counts

-- the count of a row in two lists together is the sum of both counts
pub count_of-append : (a b : List Entry) (row : List ℤ) → count_of (a ++ b) row ≡ count_of a row +ℤ count_of b row
count_of-append a b row = total_by-append (λ e. cond (same_row e.row row) e.count (pos 0)) a b

-- negating a bag negates each count
pub count_of-negated_entry : (a : List Entry) (row : List ℤ) → count_of (map negated_entry a) row ≡ neg_ℤ (count_of a row)
count_of-negated_entry a row =
    total_by-map (λ e. cond (same_row e.row row) e.count (pos 0)) negated_entry a
    ∙ (total_by-same (λ e. cond (same_row e.row row) (neg_ℤ e.count) (pos 0)) (λ e. neg_ℤ (cond (same_row e.row row) e.count (pos 0))) a (λ e. inside (same_row e.row row) e.count)
    ∙ total_by-negate (λ e. cond (same_row e.row row) e.count (pos 0)) a)
  where
    inside : (b : Bool) (n : ℤ) → cond b (neg_ℤ n) (pos 0) ≡ neg_ℤ (cond b n (pos 0))
    inside true n = refl
    inside false n = refl

-- a filter by rows keeps the count of a row or makes it 0
pub count_of-filter : (test : List ℤ → Bool) (a : List Entry) (row : List ℤ) → count_of (filter (λ e. test e.row) a) row ≡ cond (test row) (count_of a row) (pos 0)
count_of-filter test a row =
    total_by-filter (λ e. cond (same_row e.row row) e.count (pos 0)) (λ e. test e.row) a
    ∙ (total_by-same (λ e. cond (test e.row) (cond (same_row e.row row) e.count (pos 0)) (pos 0)) (λ e. cond (test row) (cond (same_row e.row row) e.count (pos 0)) (pos 0)) a (λ e. at_row e (same_row e.row row) refl)
    ∙ total_by-when (test row) (λ e. cond (same_row e.row row) e.count (pos 0)) a)
  where
    at_row : (e : Entry) (b : Bool) → same_row e.row row ≡ b → cond (test e.row) (cond b e.count (pos 0)) (pos 0) ≡ cond (test row) (cond b e.count (pos 0)) (pos 0)
    at_row e true h = ap (λ r. cond (test r) e.count (pos 0)) (row_same e.row row h)
    at_row e false h = when_zero (test e.row) ∙ sym (when_zero (test row))

-- ---- values that are additive in the counts

-- the value of a row is additive in its count
abbrev pub AddsUp : (List ℤ → ℤ → ℤ) → Type 0
AddsUp value = (row : List ℤ) (m n : ℤ) → value row (m +ℤ n) ≡ value row m +ℤ value row n

-- the sum of the values of the entries
abbrev pub weigh : (List ℤ → ℤ → ℤ) → List Entry → ℤ
weigh value entries = total_by (λ e. value e.row e.count) entries

-- the entries of all rows but this one
abbrev entries_of_others : List ℤ → List Entry → List Entry
entries_of_others row entries = filter (λ e. not (same_row e.row row)) entries

module _ (value : List ℤ → ℤ → ℤ) (adds : AddsUp value) where
  -- the value of count 0 is 0, and a negated count has the negated value
  value_zero : (row : List ℤ) → value row (pos 0) ≡ pos 0
  value_zero row = let h : value row (pos 0) ≡ value row (pos 0) +ℤ value row (pos 0) = adds row (pos 0) (pos 0) in omega (arith, ints)

  value_negated : (row : List ℤ) (n : ℤ) → value row (neg_ℤ n) ≡ neg_ℤ (value row n)
  value_negated row n =
      let gone : n +ℤ neg_ℤ n ≡ pos 0 = omega (arith, ints) in
      let h : value row n +ℤ value row (neg_ℤ n) ≡ pos 0 = sym (adds row n (neg_ℤ n)) ∙ (ap (value row) gone ∙ value_zero row) in
      omega (arith, ints)

  -- the values of the entries of one row add up to the value of the row's count
  weigh-row : (row : List ℤ) (entries : List Entry) → weigh value (filter (λ e. same_row e.row row) entries) ≡ value row (count_of entries row)
  weigh-row row [] = sym (value_zero row)
  weigh-row row (e ∷ entries) = step (weigh-row row entries) (same_row e.row row) refl
    where
      step : weigh value (filter (λ e. same_row e.row row) entries) ≡ value row (count_of entries row) → (b : Bool) → same_row e.row row ≡ b
          → weigh value (cond b (e ∷ filter (λ e. same_row e.row row) entries) (filter (λ e. same_row e.row row) entries)) ≡ value row (cond b e.count (pos 0) +ℤ count_of entries row)
      step h true k = rw (row_same e.row row k, h) (sym (adds row e.count (count_of entries row)))
      step h false k = let z : pos 0 +ℤ count_of entries row ≡ count_of entries row = omega (arith, ints) in h ∙ ap (value row) (sym z)

  -- if every count is 0, then the values add up to 0; n bounds the number of entries, and each step
  -- removes one row
  weigh_none : (n : ℕ) (entries : List Entry) → length entries ≤ n → ((row : List ℤ) → count_of entries row ≡ pos 0) → weigh value entries ≡ pos 0
  weigh_none n [] l z = refl
  weigh_none zero (e ∷ entries) l z = absurd (omega arith)
  weigh_none (suc n) (e ∷ entries) l z =
      let all : List Entry = e ∷ entries in
      let short : length (entries_of_others e.row all) ≤ n = rw (row_itself e.row) (shorter (filter_shorter (λ x. not (same_row x.row e.row)) entries) l) in
      let gone : (row : List ℤ) → count_of (entries_of_others e.row all) row ≡ pos 0 = λ row. count_of-filter (λ r. not (same_row r e.row)) all row ∙ (ap (λ v. cond (not (same_row row e.row)) v (pos 0)) (z row) ∙ when_zero (not (same_row row e.row))) in
      let rest = weigh_none n (entries_of_others e.row all) short gone in
      let own = weigh-row e.row all ∙ (ap (value e.row) (z e.row) ∙ value_zero e.row) in
      total_by-split (λ x. value x.row x.count) (λ x. same_row x.row e.row) all ∙ rw (own, rest) refl
    where
      shorter : {a b : ℕ} → a ≤ b → suc b ≤ suc n → a ≤ n
      shorter h k = omega arith

  weigh-negated_entry : (entries : List Entry) → weigh value (map negated_entry entries) ≡ neg_ℤ (weigh value entries)
  weigh-negated_entry entries =
      total_by-map (λ e. value e.row e.count) negated_entry entries
      ∙ (total_by-same (λ e. value e.row (neg_ℤ e.count)) (λ e. neg_ℤ (value e.row e.count)) entries (λ e. value_negated e.row e.count)
      ∙ total_by-negate (λ e. value e.row e.count) entries)

  -- alike bags have equal sums of values
  pub weigh_alike : (a b : List Entry) → Alike a b → weigh value a ≡ weigh value b
  weigh_alike a b h =
      let none = weigh_none (length (a ++ map negated_entry b)) (a ++ map negated_entry b) (omega arith) (λ row. count_of-append a (map negated_entry b) row ∙ rw (count_of-negated_entry b row) (differ (count_of a row) (count_of b row) (h row))) in
      same (weigh value a) (weigh value b) (sym (total_by-append (λ e. value e.row e.count) a (map negated_entry b) ∙ ap (λ v. weigh value a +ℤ v) (weigh-negated_entry b)) ∙ none)
    where
      differ : (x y : ℤ) → x ≡ y → x +ℤ neg_ℤ y ≡ pos 0
      differ x y e = omega (arith, ints)

      same : (x y : ℤ) → x +ℤ neg_ℤ y ≡ pos 0 → x ≡ y
      same x y e = omega (arith, ints)
