-- The answers of the kinds of a plan: when they are those of the plan's reductions, and how many
-- columns their rows have.
use Rattle.std.proofs.Common.{◌≡◌, ◌≤◌, ℕ, suc, Bool, true, false, cond, not, eqb, List, [], ◌∷◌, ◌++◌, map, take, length, refl, sym, ap, ◌∙◌, arith}
use Rattle.std.specs.Prelude.{IsTrue, nat_le}
use Rattle.std.proofs.Math.IntN.{ℤ, pos}
use Rattle.std.specs.List.{filter, list_all, flat_map}
use Rattle.std.specs.Ordering.{int_eq}
use Rattle.std.proofs.lemmas.Bool.{and_from, and_parts, eq-eqb, eqb-true, le-leb, leb-true}
use Rattle.std.proofs.lemmas.List.{length-append, length-take-le}
use Rattle.std.proofs.lemmas.List.Folds.{list_all-append, list_all-map}
use Rattle.update.specs.Bags.{Entry, same_row}
use Rattle.plan.specs.Operators.{keys, reduction_output}
use Rattle.plan.specs.Reductions.{each_once, single, is_present, present, least_rows, greatest_rows, sum_of_counts, reduction_answer, has_key}
use Rattle.plan.specs.Widths.{reduced_width}
use Rattle.plan.specs.declared.node.Kind.{Kind}
use Rattle.plan.specs.declared.node.Kind.TheVariants.{Count, Distinct, Min, Max}
use Rattle.reducer.specs.Kinds.{kind_answer}

-- if a count has room, the answer of each kind is that of the plan's reduction
pub with_room : (kind : Kind) (key : List ℤ) (es : List Entry) → (kind ≡ Count → length key ≤ 7) → kind_answer kind key es ≡ reduction_answer kind key es
with_room Count key es room = ap (λ b. cond b (reduction_answer Count key es) []) (le-leb (length key) 7 (room refl))
with_room Distinct key es room = refl
with_room Min key es room = refl
with_room Max key es room = refl

-- ---- lists all of whose elements pass a test

module _ {X : Type 0} (p : X → Bool) where
  all_filter : (q : X → Bool) (xs : List X) → list_all p xs ≡ true → list_all p (filter q xs) ≡ true
  all_filter q [] h = refl
  all_filter q (x ∷ xs) h =
      let e = and_parts (p x) (list_all p xs) h in
      step (q x) e.0 (all_filter q xs e.1)
    where
      step : (b : Bool) → p x ≡ true → list_all p (filter q xs) ≡ true → list_all p (cond b (x ∷ filter q xs) (filter q xs)) ≡ true
      step true first rest = and_from (p x) (list_all p (filter q xs)) first rest
      step false first rest = rest

  all_flat : {Y : Type 0} (f : Y → List X) (q : Y → Bool) → ((y : Y) → q y ≡ true → list_all p (f y) ≡ true) → (ys : List Y) → list_all q ys ≡ true → list_all p (flat_map f ys) ≡ true
  all_flat f q g [] h = refl
  all_flat f q g (y ∷ ys) h =
      let e = and_parts (q y) (list_all q ys) h in
      list_all-append p (f y) (flat_map f ys) ∙ and_from (list_all p (f y)) (list_all p (flat_map f ys)) (g y e.0) (all_flat f q g ys e.1)

module _ (p : List ℤ → Bool) where
  all_once : (rows : List (List ℤ)) → list_all p rows ≡ true → list_all p (each_once rows) ≡ true
  all_once [] h = refl
  all_once (r ∷ rows) h =
      let e = and_parts (p r) (list_all p rows) h in
      and_from (p r) (list_all p (filter (λ other. not (same_row other r)) (each_once rows))) e.0 (all_filter p (λ other. not (same_row other r)) (each_once rows) (all_once rows e.1))

  present_pass : (es : List Entry) → list_all (λ e. p e.row) es ≡ true → list_all p (present es) ≡ true
  present_pass es h =
      all_once (filter (is_present es) (map (λ (e : Entry). e.row) es))
      (all_filter p (is_present es) (map (λ (e : Entry). e.row) es) (list_all-map p (λ (e : Entry). e.row) es ∙ h))

  singles_pass : (rows : List (List ℤ)) → list_all p rows ≡ true → list_all (λ (e : Entry). p e.row) (map single rows) ≡ true
  singles_pass rows h = list_all-map (λ (e : Entry). p e.row) single rows ∙ h

-- ---- widths

count_wide : (k : ℕ) (key : List ℤ) (n : ℤ) → eqb (length key) k ≡ true → (b : Bool) → list_all (λ (e : Entry). eqb (length e.row) (suc k)) (cond b [] (single (key ++ n ∷ []) ∷ [])) ≡ true
count_wide k key n h true = refl
count_wide k key n h false =
    let a = eqb-true (length key) k h in
    let b = length-append key (n ∷ []) in
    let long : length (key ++ n ∷ []) ≡ suc k = omega (arith, a, b) in
    and_from (eqb (length (key ++ n ∷ [])) (suc k)) true (eq-eqb (length (key ++ n ∷ [])) (suc k) long) refl

-- for a key of k columns and rows of one width, the rows of the answer have the width that the plan
-- says
pub answer_wide : (kind : Kind) (k width : ℕ) (key : List ℤ) → eqb (length key) k ≡ true → (es : List Entry) → list_all (λ (e : Entry). eqb (length e.row) width) es ≡ true
    → list_all (λ (e : Entry). eqb (length e.row) (reduced_width kind k width)) (reduction_answer kind key es) ≡ true
answer_wide Count k width key h es w = count_wide k key (sum_of_counts es) h (int_eq (sum_of_counts es) (pos 0))
answer_wide Distinct k width key h es w = singles_pass (λ row. eqb (length row) width) (present es) (present_pass (λ row. eqb (length row) width) es w)
answer_wide Min k width key h es w =
    singles_pass (λ row. eqb (length row) width) (least_rows (present es))
    (all_filter (λ (row : List ℤ). eqb (length row) width) _ (present es) (present_pass (λ row. eqb (length row) width) es w))
answer_wide Max k width key h es w =
    singles_pass (λ row. eqb (length row) width) (greatest_rows (present es))
    (all_filter (λ (row : List ℤ). eqb (length row) width) _ (present es) (present_pass (λ row. eqb (length row) width) es w))

keys_wide : (k : ℕ) (es : List Entry) → list_all (λ key. eqb (length key) k) (keys k es) ≡ true
keys_wide k es =
    all_once (λ key. eqb (length key) k) (map (λ (e : Entry). take k e.row) (filter (λ e. nat_le k (length e.row)) es))
    (list_all-map (λ (key : List ℤ). eqb (length key) k) (λ (e : Entry). take k e.row) (filter (λ e. nat_le k (length e.row)) es) ∙ each es)
  where
    each : (es : List Entry) → list_all (λ (e : Entry). eqb (length (take k e.row)) k) (filter (λ e. nat_le k (length e.row)) es) ≡ true
    each [] = refl
    each (e ∷ es) = step (nat_le k (length e.row)) refl (each es)
      where
        step : (b : Bool) → nat_le k (length e.row) ≡ b → list_all (λ (e : Entry). eqb (length (take k e.row)) k) (filter (λ e. nat_le k (length e.row)) es) ≡ true
            → list_all (λ (e : Entry). eqb (length (take k e.row)) k) (cond b (e ∷ filter (λ e. nat_le k (length e.row)) es) (filter (λ e. nat_le k (length e.row)) es)) ≡ true
        step true f ih = and_from (eqb (length (take k e.row)) k) (list_all (λ (e : Entry). eqb (length (take k e.row)) k) (filter (λ e. nat_le k (length e.row)) es)) (eq-eqb (length (take k e.row)) k (length-take-le k e.row (leb-true k (length e.row) f))) ih
        step false f ih = ih

-- so have all answers of a reduction
pub output_wide : (kind : Kind) (k width : ℕ) (es : List Entry) → list_all (λ (e : Entry). eqb (length e.row) width) es ≡ true
    → list_all (λ (e : Entry). eqb (length e.row) (reduced_width kind k width)) (reduction_output k (reduction_answer kind) es) ≡ true
output_wide kind k width es h =
    all_flat (λ (e : Entry). eqb (length e.row) (reduced_width kind k width)) (λ key. reduction_answer kind key (filter (has_key k key) es)) (λ key. eqb (length key) k)
    (λ key e. answer_wide kind k width key e (filter (has_key k key) es) (all_filter (λ (e : Entry). eqb (length e.row) width) (has_key k key) es h))
    (keys k es) (keys_wide k es)
