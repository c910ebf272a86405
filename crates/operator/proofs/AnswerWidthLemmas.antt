-- How many columns the rows have that a reduction answers, and which function its answers are.
use Rattle.std.proofs.Common.{◌≡◌, ◌≤◌, ℕ, suc, Bool, true, false, cond, not, eqb, List, [], ◌∷◌, ◌++◌, map, take, length, refl, sym, ap, ◌∙◌, arith}
use Rattle.std.specs.Prelude.{IsTrue, nat_le}
use Rattle.std.proofs.Math.IntN.{ℤ, pos}
use Rattle.std.specs.List.{filter, list_all, flat_map}
use Rattle.std.specs.Ordering.{int_eq}
use Rattle.std.proofs.lemmas.Bool.{and_from, and_parts, eq-eqb, eqb-true, le-leb, leb-true}
use Rattle.std.proofs.lemmas.List.{length-append, length-take, length-take-le}
use Rattle.std.proofs.lemmas.List.Folds.{list_all-append, list_all-map}
use Rattle.antichain.proofs.Lists.{all_filter}
use Rattle.update.specs.Bags.{Entry, Alike, count_of, same_row}
use Rattle.update.specs.Updates.{entry, as_of}
use Rattle.update.specs.declared.change.Update.{Update}
use Rattle.plan.specs.Operators.{keys, reduction_output}
use Rattle.plan.specs.Reductions.{each_once, single, is_present, present, least_rows, greatest_rows, sum_of_counts, reduction_answer, has_key}
use Rattle.plan.specs.Widths.{reduced_width}
use Rattle.plan.specs.declared.node.Kind.{Kind}
use Rattle.plan.specs.declared.node.Kind.TheVariants.{Count, Distinct, Min, Max}
use Rattle.plan.specs.declared.node.Node.TheVariants.{Reduce}
use Rattle.plan.proofs.ReducerLemmas.{all_reduce}
use Rattle.plan.proofs.ReductionLemmas.{by_key_at}
use Rattle.plan.proofs.OperatorLemmas.{given_alike}
use Rattle.reduce.specs.Kinds.{kind_answer, kind_reduces}
use Rattle.operator.specs.Reductions.{HasRoom, have_width, state_key}
use Rattle.operator.proofs.DistinctLemmas.{by_state_key, state_has_room}
use Rattle.lattice.specs.Times.{Times}

-- a key that a plan allows has at most 8 columns
pub few : (kind : Kind) (key width : ℕ) → HasRoom kind key width → key ≤ 8
few Count key width h = let a : suc key ≤ 8 = h.room in omega (arith, a)
few Distinct key width h = let a : width ≤ 8 = h.room in let b : key ≤ width = h.within in omega (arith, a, b)
few Min key width h = let a : width ≤ 8 = h.room in let b : key ≤ width = h.within in omega (arith, a, b)
few Max key width h = let a : width ≤ 8 = h.room in let b : key ≤ width = h.within in omega (arith, a, b)

-- ---- the answers of a plan

-- where a count has room, the reducers answer what the plan's reductions answer
same_answers : (kind : Kind) (k width : ℕ) → HasRoom kind k width → (es : List Entry) → Alike (reduction_output k (kind_answer kind) es) (reduction_output k (reduction_answer kind) es)
same_answers Count k width room es row =
    by_key_at k (kind_answer Count) (kind_reduces Count k) es row
    ∙ (ap (λ b. cond (nat_le k (length row)) (count_of (cond b (reduction_answer Count (take k row) (filter (has_key k (take k row)) es)) []) row) (pos 0)) short
    ∙ sym (by_key_at k (reduction_answer Count) (all_reduce Count k) es row))
  where
    short : nat_le (length (take k row)) 7 ≡ true
    short =
        let a : suc k ≤ 8 = room.room in
        let n = length-take k row in
        le-leb (length (take k row)) 7 (omega (arith, a, n))
same_answers Distinct k width room es row = refl
same_answers Min k width room es row = refl
same_answers Max k width room es row = refl

-- alike rows get alike answers
pub alike_answers : (kind : Kind) (k : ℕ) (a b : List Entry) → Alike a b → Alike (reduction_output k (reduction_answer kind) a) (reduction_output k (reduction_answer kind) b)
alike_answers kind k a b h = given_alike k (Reduce kind 0) (λ port. a) (λ port. b) (λ port e. h)

-- for rows of one width the reducers answer by the key of the state what the plan's reduction
-- answers
pub plan_answers : (kind : Kind) (k key width : ℕ) → k ≡ state_key kind key width → HasRoom kind key width → (es : List Entry) → list_all (λ (e : Entry). eqb (length e.row) width) es ≡ true
    → Alike (reduction_output k (kind_answer kind) es) (reduction_output key (reduction_answer kind) es)
plan_answers kind k key width goes room es wide row =
    ap (λ k. count_of (reduction_output k (kind_answer kind) es) row) goes
    ∙ (same_answers kind (state_key kind key width) width (state_has_room kind key width room) es row
    ∙ by_state_key kind key width es room.within wide row)

-- ---- widths

all_flat : {X Y : Type 0} (p : Y → Bool) (f : X → List Y) (q : X → Bool) → ((x : X) → q x ≡ true → list_all p (f x) ≡ true) → (xs : List X) → list_all q xs ≡ true → list_all p (flat_map f xs) ≡ true
all_flat p f q g [] h = refl
all_flat p f q g (x ∷ xs) h =
    let e = and_parts (q x) (list_all q xs) h in
    list_all-append p (f x) (flat_map f xs) ∙ and_from (list_all p (f x)) (list_all p (flat_map f xs)) (g x e.0) (all_flat p f q g xs e.1)

all_once : (p : List ℤ → Bool) (rows : List (List ℤ)) → list_all p rows ≡ true → list_all p (each_once rows) ≡ true
all_once p [] h = refl
all_once p (r ∷ rows) h =
    let e = and_parts (p r) (list_all p rows) h in
    and_from (p r) (list_all p (filter (λ other. not (same_row other r)) (each_once rows))) e.0 (all_filter p (λ other. not (same_row other r)) (each_once rows) (all_once p rows e.1))

keys_wide : (k : ℕ) (es : List Entry) → list_all (λ key. eqb (length key) k) (keys k es) ≡ true
keys_wide k es =
    all_once (λ key. eqb (length key) k) (map (λ (e : Entry). take k e.row) (filter (λ e. nat_le k (length e.row)) es))
    (list_all-map (λ (key : List ℤ). eqb (length key) k) (λ (e : Entry). take k e.row) (filter (λ e. nat_le k (length e.row)) es) ∙ each es)
  where
    each : (es : List Entry) → list_all (λ (e : Entry). eqb (length (take k e.row)) k) (filter (λ e. nat_le k (length e.row)) es) ≡ true
    each [] = refl
    each (e ∷ es) = step (nat_le k (length e.row)) refl (each es)
      where
        step : (b : Bool) → nat_le k (length e.row) ≡ b → list_all (λ (e : Entry). eqb (length (take k e.row)) k) (filter (λ e. nat_le k (length e.row)) es) ≡ true
            → list_all (λ (e : Entry). eqb (length (take k e.row)) k) (cond b (e ∷ filter (λ e. nat_le k (length e.row)) es) (filter (λ e. nat_le k (length e.row)) es)) ≡ true
        step true f ih = and_from (eqb (length (take k e.row)) k) (list_all (λ (e : Entry). eqb (length (take k e.row)) k) (filter (λ e. nat_le k (length e.row)) es)) (eq-eqb (length (take k e.row)) k (length-take-le k e.row (leb-true k (length e.row) f))) ih
        step false f ih = ih

module _ (p : List ℤ → Bool) where
  present_pass : (es : List Entry) → list_all (λ e. p e.row) es ≡ true → list_all p (present es) ≡ true
  present_pass es h =
      all_once p (filter (is_present es) (map (λ (e : Entry). e.row) es))
      (all_filter p (is_present es) (map (λ (e : Entry). e.row) es) (list_all-map p (λ (e : Entry). e.row) es ∙ h))

  singles_pass : (rows : List (List ℤ)) → list_all p rows ≡ true → list_all (λ (e : Entry). p e.row) (map single rows) ≡ true
  singles_pass rows h = list_all-map (λ (e : Entry). p e.row) single rows ∙ h

count_wide : (k : ℕ) (key : List ℤ) (n : ℤ) → eqb (length key) k ≡ true → (b c : Bool) → list_all (λ (e : Entry). eqb (length e.row) (suc k)) (cond b (cond c [] (single (key ++ n ∷ []) ∷ [])) []) ≡ true
count_wide k key n h false c = refl
count_wide k key n h true true = refl
count_wide k key n h true false =
    let a = eqb-true (length key) k h in
    let b = length-append key (n ∷ []) in
    let long : length (key ++ n ∷ []) ≡ suc k = omega (arith, a, b) in
    and_from (eqb (length (key ++ n ∷ [])) (suc k)) true (eq-eqb (length (key ++ n ∷ [])) (suc k) long) refl

answer_wide : (kind : Kind) (k width : ℕ) (key : List ℤ) → eqb (length key) k ≡ true → (es : List Entry) → list_all (λ (e : Entry). eqb (length e.row) width) es ≡ true
    → list_all (λ (e : Entry). eqb (length e.row) (reduced_width kind k width)) (kind_answer kind key es) ≡ true
answer_wide Count k width key h es w = count_wide k key (sum_of_counts es) h (nat_le (length key) 7) (int_eq (sum_of_counts es) (pos 0))
answer_wide Distinct k width key h es w = singles_pass (λ row. eqb (length row) width) (present es) (present_pass (λ row. eqb (length row) width) es w)
answer_wide Min k width key h es w =
    singles_pass (λ row. eqb (length row) width) (least_rows (present es))
    (all_filter (λ (row : List ℤ). eqb (length row) width) _ (present es) (present_pass (λ row. eqb (length row) width) es w))
answer_wide Max k width key h es w =
    singles_pass (λ row. eqb (length row) width) (greatest_rows (present es))
    (all_filter (λ (row : List ℤ). eqb (length row) width) _ (present es) (present_pass (λ row. eqb (length row) width) es w))

-- the rows of the answers for rows of one width
pub output_wide : (kind : Kind) (k width : ℕ) (es : List Entry) → list_all (λ (e : Entry). eqb (length e.row) width) es ≡ true
    → list_all (λ (e : Entry). eqb (length e.row) (reduced_width kind k width)) (reduction_output k (kind_answer kind) es) ≡ true
output_wide kind k width es h =
    all_flat (λ (e : Entry). eqb (length e.row) (reduced_width kind k width)) (λ key. kind_answer kind key (filter (has_key k key) es)) (λ key. eqb (length key) k)
    (λ key e. answer_wide kind k width key e (filter (has_key k key) es) (all_filter (λ (e : Entry). eqb (length e.row) width) (has_key k key) es h))
    (keys k es) (keys_wide k es)

-- the sum of updates of one width has rows of this width
pub sum_wide : {T : Type 0} (times : Times T) (t : T) (width : ℕ) (us : List (Update T)) → IsTrue (have_width width us) → list_all (λ (e : Entry). eqb (length e.row) width) (as_of times t us) ≡ true
sum_wide {T} times t width us h =
    list_all-map (λ (e : Entry). eqb (length e.row) width) entry (filter (λ u. times.below u.time t) us)
    ∙ all_filter (λ (u : Update T). eqb (length u.row) width) (λ u. times.below u.time t) us h
