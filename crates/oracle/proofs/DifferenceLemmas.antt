-- Lists of differences: how the list grows along the join closure, and why the finished list is the
-- differences of the view.
use Rattle.std.proofs.Common.{◌≡◌, ◌≢◌, ℕ, zero, suc, ◌+◌, ◌<◌, ◌≤◌, take_all, Bool, true, false, cond, List, [], ◌∷◌, ◌++◌, ℤ, map, take, drop, length, get_or, IsTrue, ◌⊎◌, ⊎_elim, inl, inr, refl, ap, sym, subst, ◌∙◌, eq-or-lt_of_le, length-take-le, Option, Some, None, arith}
use Rattle.std.specs.Prelude.{pos, ◌+ℤ◌, not, slice_get}
use Rattle.std.specs.List.{filter, flat_map, list_all, AllByRecursion, Contains}
use Rattle.std.specs.List.Sorted.{IsStrictlySortedBy}
use Rattle.std.specs.Cmp.{IsTotalOrder}
use Rattle.std.specs.Cmp.Lexicographic.{slice_cmp}
use Rattle.std.specs.Ordering.{int_cmp, is_le, is_eq, ordering_then, ordering_reverse}
use Rattle.std.specs.declared.cmp.Ordering.{Ordering}
use Rattle.std.specs.declared.cmp.Ordering.TheVariants.{Less, Equal, Greater}
use Rattle.std.proofs.lemmas.Bool.{and_from, true≢false, cases_lt}
use Rattle.std.proofs.lemmas.Int.{ints}
use Rattle.std.proofs.lemmas.List.{map-append, take_more, get_or_default, get_or-take, take-append-drop, append-nil, flat_map_more}
use Rattle.std.proofs.lemmas.List.Elements.{All-from_recursion, recursion_from_All, filter-append, Contains-push, Contains-push_cases, Contains-append_left}
use Rattle.antichain.proofs.AntichainLemmas.{not_true}
use Rattle.lattice.specs.Times.{Times}
use Rattle.lattice.specs.Frontiers.{is_beyond}
use Rattle.lattice.specs.Order.{PartialOrderLaws, LatticeLaws, ExtendsLaws}
use Rattle.lattice.proofs.FrontierLemmas.{beyond_up}
use Rattle.update.specs.Bags.{Entry, Alike, IsBag, count_of}
use Rattle.update.specs.Updates.{as_of, entry, by_time_then_row}
use Rattle.update.specs.declared.change.Update.{Update}
use Rattle.plan.specs.Ancestors.{feeds, numbers_below}
use Rattle.plan.specs.Changes.{AreDifferences, has_passed, query_at}
use Rattle.plan.specs.Nodes.{node_at, sources, key_width}
use Rattle.plan.specs.Operators.{operator_output}
use Rattle.plan.specs.Queries.{query, source_value}
use Rattle.plan.specs.Rules.{IsPlan}
use Rattle.plan.specs.declared.node.Node.{Node}
use Rattle.plan.proofs.FedLemmas.{alike_where_fed}
use Rattle.plan.proofs.OperatorLemmas.{given_alike, given_nothing}
use Rattle.plan.proofs.PlanLemmas.{source_smaller}
use Rattle.plan.proofs.StepLemmas.{query_by_sources}
use Rattle.plan.proofs.UpwardLemmas.{by_smaller}
use Rattle.plan.proofs.CountLemmas.{count_of-append}
use Rattle.oracle.specs.Evaluation.{HasLargeAbove, list_of, sums_at}
use Rattle.oracle.specs.JoinClosures.{HavePassed, IsJoinClosure}
use Rattle.oracle.specs.Listing.{at_time, ContinuesListing, HasLargeDifference, HasLargeGap, IsListed}
use Rattle.oracle.proofs.JoinClosureLemmas.{last_of, passed_before}

-- ---- lists

sorted_at : {X : Type 0} (c : X → X → Ordering) (xs : List X) → IsStrictlySortedBy c xs → (i j : ℕ) (d : X) → i < j → j < length xs → c (get_or xs i d) (get_or xs j d) ≡ Less
unfolding IsStrictlySortedBy
sorted_at c [] s i j d l m = absurd (omega (arith, m))
sorted_at c (x ∷ xs) s i zero d l m = absurd (omega (arith, l))
sorted_at c (x ∷ xs) s zero (suc j) d l m = All-from_recursion (λ y. c x y ≡ Less) xs s.0 j d (omega (arith, m))
sorted_at c (x ∷ xs) s (suc i) (suc j) d l m = sorted_at c xs s.1 i j d (omega (arith, l)) (omega (arith, m))

all_both : {X : Type 0} (P : X → Type 0) (xs ys : List X) → AllByRecursion P xs → AllByRecursion P ys → AllByRecursion P (xs ++ ys)
all_both P [] ys a b = b
all_both P (x ∷ xs) ys a b = (a.0, all_both P xs ys a.1 b)

all_weaker : {X : Type 0} (P Q : X → Type 0) → ((x : X) → P x → Q x) → (xs : List X) → AllByRecursion P xs → AllByRecursion Q xs
all_weaker P Q f [] a = tt
all_weaker P Q f (x ∷ xs) a = (f x a.0, all_weaker P Q f xs a.1)

sorted_both : {X : Type 0} (c : X → X → Ordering) (xs ys : List X) → IsStrictlySortedBy c xs → IsStrictlySortedBy c ys → AllByRecursion (λ x. AllByRecursion (λ y. c x y ≡ Less) ys) xs → IsStrictlySortedBy c (xs ++ ys)
unfolding IsStrictlySortedBy
sorted_both c [] ys s t a = t
sorted_both c (x ∷ xs) ys s t a = (all_both (λ y. c x y ≡ Less) xs ys s.0 a.0, sorted_both c xs ys s.1 t a.1)

-- ---- sums

module _ {T : Type 0} (times : Times T) where
  sum_both : (t : T) (us vs : List (Update T)) → as_of times t (us ++ vs) ≡ as_of times t us ++ as_of times t vs
  sum_both t us vs = ap (map entry) (filter-append (λ u. times.below u.time t) us vs) ∙ map-append entry (filter (λ u. times.below u.time t) us) (filter (λ u. times.below u.time t) vs)

  sum_at_time : (s t : T) (es : List Entry) (b : Bool) → times.below t s ≡ b → as_of times s (map (at_time t) es) ≡ cond b es []
  sum_at_time s t [] true h = refl
  sum_at_time s t [] false h = refl
  sum_at_time s t (e ∷ es) true h = ap (λ b. map entry (cond b (at_time t e ∷ filter (λ u. times.below u.time s) (map (at_time t) es)) (filter (λ u. times.below u.time s) (map (at_time t) es)))) h ∙ ap (λ l. e ∷ l) (sum_at_time s t es true h)
  sum_at_time s t (e ∷ es) false h = ap (λ b. map entry (cond b (at_time t e ∷ filter (λ u. times.below u.time s) (map (at_time t) es)) (filter (λ u. times.below u.time s) (map (at_time t) es)))) h ∙ sum_at_time s t es false h

  -- two sums of a list are equal if each of its times is at or before both times, or at or before
  -- neither
  sum_same : (s t : T) (us : List (Update T)) → AllByRecursion (λ u. times.below u.time s ≡ times.below u.time t) us → as_of times s us ≡ as_of times t us
  sum_same s t [] a = refl
  sum_same s t (u ∷ us) a =
      (λ i. map entry (cond (a.0 i) (u ∷ filter (λ u. times.below u.time s) us) (filter (λ u. times.below u.time s) us)))
      ∙ step (sum_same s t us a.1) (times.below u.time t)
    where
      step : as_of times s us ≡ as_of times t us → (b : Bool) → map entry (cond b (u ∷ filter (λ u. times.below u.time s) us) (filter (λ u. times.below u.time s) us)) ≡ map entry (cond b (u ∷ filter (λ u. times.below u.time t) us) (filter (λ u. times.below u.time t) us))
      step rest true = ap (λ l. entry u ∷ l) rest
      step rest false = rest

  sum_none : (t : T) (us : List (Update T)) → AllByRecursion (λ u. times.below u.time t ≡ false) us → as_of times t us ≡ []
  sum_none t [] a = refl
  sum_none t (u ∷ us) a = (λ i. map entry (cond (a.0 i) (u ∷ filter (λ u. times.below u.time t) us) (filter (λ u. times.below u.time t) us))) ∙ sum_none t us a.1

-- if the inputs have no rows, neither has the query
query_nothing : (p : List Node) → IsPlan p → (n : ℕ) → Alike (query p (λ input. []) n) []
query_nothing p plan = by_smaller (λ n. Alike (query p (λ input. []) n) []) (λ n rest row.
    ap (λ es. count_of es row) (query_by_sources p plan (λ input. []) n)
    ∙ (given_alike (key_width p (node_at p n)) (node_at p n) (λ port. source_value [] (query p (λ input. [])) (slice_get (sources (node_at p n)) port)) (λ port. []) (λ port s. at_port n rest port (slice_get (sources (node_at p n)) port) refl) row
    ∙ given_nothing (key_width p (node_at p n)) (node_at p n) row))
  where
    at_port : (n : ℕ) → ((m : ℕ) → m < n → Alike (query p (λ input. []) m) []) → (port : ℕ) (o : Option ℕ) → slice_get (sources (node_at p n)) port ≡ o → Alike (source_value [] (query p (λ input. [])) o) []
    at_port n rest port None e = λ row. refl
    at_port n rest port (Some s) e = rest s (source_smaller p plan n port s e)

-- ---- along the join closure

module _ {T : Type 0} {times : Times T} {cmp : T → T → Ordering} (o : PartialOrderLaws times) (b : LatticeLaws times) (x : ExtendsLaws times cmp) (total : IsTotalOrder cmp)
    (p : List Node) (plan : IsPlan p) (lists : List (List (Update T))) (view : ℕ) (within : view < length p) (frontier join_closure : List T)
    (is : IsJoinClosure times cmp p (list_of p lists) frontier view join_closure) where
  abbrev wanted : T → List Entry
  wanted = query_at times p (list_of p lists) view

  -- a time that sorts before another is not at or after it
  not_behind : (s t : T) → cmp s t ≡ Less → times.below t s ≡ true → ⊥
  not_behind s t l h = true≢false (sym (x.extends t s h) ∙ ap is_le (total.antisymm t s ∙ ap ordering_reverse l))

  same_order : (t : T) → cmp t t ≡ Equal
  same_order t = step (cmp t t) (x.extends t t (o.reflexive t)) (total.antisymm t t)
    where
      step : (r : Ordering) → is_le r ≡ true → r ≡ ordering_reverse r → r ≡ Equal
      step Less h e = absurd (true≢false (ap is_le e))
      step Equal h e = refl
      step Greater h e = absurd (true≢false (sym h))

  -- a time of the closure is at or before t if and only if it is at or before f, the last one at or
  -- before t
  same_below : (t f : T) → IsTrue (times.below f t) → ((s : T) → Contains join_closure s → IsTrue (times.below s t) → IsTrue (times.below s f)) → (s : T) → Contains join_closure s → times.below s t ≡ times.below s f
  same_below t f h last s c = step (times.below s t) (times.below s f) refl refl
    where
      step : (v w : Bool) → times.below s t ≡ v → times.below s f ≡ w → v ≡ w
      step true w e g = sym (last s c e) ∙ g
      step false false e g = refl
      step false true e g = sym e ∙ o.transitive s f t g h

  -- an open time is not at or before a passed one
  not_below : (s t : T) → is_beyond times frontier s ≡ true → IsTrue (has_passed times frontier t) → times.below s t ≡ false
  not_below s t later h = step (times.below s t) refl
    where
      step : (v : Bool) → times.below s t ≡ v → v ≡ false
      step true e = absurd (not_true (is_beyond times frontier t) h (beyond_up o frontier s t later e))
      step false e = refl

  -- each change of an input that feeds the view has a time of the closure, or one that is still
  -- open
  closed_or_open : (input : ℕ) → IsTrue (feeds p input view) → AllByRecursion (λ u. Contains join_closure u.time ⊎ (is_beyond times frontier u.time ≡ true)) (list_of p lists input)
  closed_or_open input fed =
      all_weaker (λ u. IsTrue (has_passed times frontier u.time) → Contains join_closure u.time) (λ u. Contains join_closure u.time ⊎ (is_beyond times frontier u.time ≡ true)) (λ u h. step u.time h (is_beyond times frontier u.time) refl)
      (list_of p lists input) (recursion_from_All (λ u. IsTrue (has_passed times frontier u.time) → Contains join_closure u.time) (list_of p lists input) (is.covers input fed))
    where
      step : (s : T) → (IsTrue (has_passed times frontier s) → Contains join_closure s) → (v : Bool) → is_beyond times frontier s ≡ v → Contains join_closure s ⊎ (is_beyond times frontier s ≡ true)
      step s h true e = inr e
      step s h false e = inl (h (ap not e))

  -- an operator depends only on the bags at its ports
  operators_alike : (k : ℕ) (node : Node) (c d : ℕ → List Entry) → ((port : ℕ) → Alike (c port) (d port)) → Alike (operator_output k node c) (operator_output k node d)
  operators_alike k node c d h = given_alike k node c d (λ port s. h port)

  -- at a passed time, the query is the same as at the last time of the closure at or before it
  wanted_same : (t f : T) → IsTrue (has_passed times frontier t) → IsTrue (times.below f t) → ((s : T) → Contains join_closure s → IsTrue (times.below s t) → IsTrue (times.below s f)) → Alike (wanted t) (wanted f)
  wanted_same t f passed h last =
      alike_where_fed operators_alike p plan (sums_at times p lists t) (sums_at times p lists f) view within
      (λ input fed row. ap (λ es. count_of es row) (sum_same times t f (list_of p lists input) (all_weaker (λ u. Contains join_closure u.time ⊎ (is_beyond times frontier u.time ≡ true)) (λ u. times.below u.time t ≡ times.below u.time f) (λ u k. either u.time k) (list_of p lists input) (closed_or_open input fed))))
    where
      either : (s : T) → Contains join_closure s ⊎ (is_beyond times frontier s ≡ true) → times.below s t ≡ times.below s f
      either s k = ⊎_elim (λ c. same_below t f h last s c) (λ later. not_below s t later passed ∙ sym (not_below s f later (passed_before o frontier f t h passed))) k

  -- at a passed time that has no time of the closure at or before it, the query has no rows
  wanted_none : (t : T) → IsTrue (has_passed times frontier t) → ((s : T) → Contains join_closure s → times.below s t ≡ false) → Alike (wanted t) []
  wanted_none t passed none row =
      alike_where_fed operators_alike p plan (sums_at times p lists t) (λ input. []) view within
      (λ input fed row. ap (λ es. count_of es row) (sum_none times t (list_of p lists input) (all_weaker (λ u. Contains join_closure u.time ⊎ (is_beyond times frontier u.time ≡ true)) (λ u. times.below u.time t ≡ false) (λ u k. ⊎_elim (λ c. none u.time c) (λ later. not_below u.time t later passed) k) (list_of p lists input) (closed_or_open input fed))))
      row
      ∙ query_nothing p plan view row

  -- one step: f is time number i of the closure
  module _ (i : ℕ) (f : T) (inside : i < length join_closure) (here : f ≡ get_or join_closure i f) where
    in_front : (t : T) → Contains (take i join_closure) t → cmp t f ≡ Less
    in_front t c =
        let few = length-take-le i join_closure (omega (arith, inside)) in
        let k : c.0 < i = omega (arith, c.1, few) in
        let at : get_or join_closure c.0 t ≡ t = sym (get_or-take i join_closure c.0 t k) ∙ c.2 in
        (λ j. cmp (sym at j) (here j)) ∙ (ap (cmp (get_or join_closure c.0 t)) (get_or_default join_closure i f t inside) ∙ sorted_at cmp join_closure is.ascending c.0 i t k inside)

    from_grid : (t : T) → Contains (take i join_closure) t → Contains join_closure t
    from_grid t c = subst (λ xs. Contains xs t) (take-append-drop i join_closure) (Contains-append_left (take i join_closure) (drop i join_closure) t c)

    next_times : take (i + 1) join_closure ≡ take i join_closure ++ f ∷ []
    next_times = take_more join_closure i f inside ∙ ap (λ t. take i join_closure ++ t ∷ []) (sym here)

    next_cases : (t : T) → Contains (take (i + 1) join_closure) t → Contains (take i join_closure) t ⊎ (f ≡ t)
    next_cases t c = Contains-push_cases (take i join_closure) f t (subst (λ xs. Contains xs t) next_times c)

    next_old : (t : T) → Contains (take i join_closure) t → Contains (take (i + 1) join_closure) t
    next_old t c = subst (λ xs. Contains xs t) (sym next_times) (Contains-append_left (take i join_closure) (f ∷ []) t c)

    next_new : Contains (take (i + 1) join_closure) f
    next_new = subst (λ xs. Contains xs f) (sym next_times) (Contains-push (take i join_closure) f)

    -- if all times of the closure have passed, f has passed
    pub passed_here : HavePassed times frontier join_closure → is_beyond times frontier f ≡ false
    passed_here all = step (is_beyond times frontier f) refl
      where
        step : (v : Bool) → is_beyond times frontier f ≡ v → v ≡ false
        step true e = absurd (not_true (is_beyond times frontier f) (all f (i, inside, sym here)) e)
        step false e = refl

    -- if f has not passed, the list stays as it is
    pub listed_skip : (us : List (Update T)) → is_beyond times frontier f ≡ true → IsListed times cmp frontier wanted (take i join_closure) us → IsListed times cmp frontier wanted (take (i + 1) join_closure) us
    listed_skip us late so = record {
      sums = λ t c h. ⊎_elim (λ d. so.sums t d h) (λ e. absurd (not_true (is_beyond times frontier t) h (subst (λ s. IsTrue (is_beyond times frontier s)) e late))) (next_cases t c);
      among = all_weaker (λ u. IsTrue (has_passed times frontier u.time) × Contains (take i join_closure) u.time) (λ u. IsTrue (has_passed times frontier u.time) × Contains (take (i + 1) join_closure) u.time) (λ u h. (h.0, next_old u.time h.1)) us so.among;
      consolidated = so.consolidated;
    }

    gap_sorted : (gap : List Entry) → IsStrictlySortedBy (λ a b. slice_cmp int_cmp a.row b.row) gap → IsStrictlySortedBy (by_time_then_row cmp) (map (at_time f) gap)
    unfolding IsStrictlySortedBy
    gap_sorted [] s = tt
    gap_sorted (e ∷ gap) s = (rows e gap s.0, gap_sorted gap s.1)
      where
        rows : (e : Entry) (gap : List Entry) → AllByRecursion (λ d. slice_cmp int_cmp e.row d.row ≡ Less) gap → AllByRecursion (λ v. by_time_then_row cmp (at_time f e) v ≡ Less) (map (at_time f) gap)
        rows e [] a = tt
        rows e (d ∷ gap) a = (ap (λ r. ordering_then r (slice_cmp int_cmp e.row d.row)) (same_order f) ∙ a.0, rows e gap a.1)

    gap_all : (P : Update T → Type 0) (Q : Entry → Type 0) → ((e : Entry) → Q e → P (at_time f e)) → (gap : List Entry) → AllByRecursion Q gap → AllByRecursion P (map (at_time f) gap)
    gap_all P Q h [] a = tt
    gap_all P Q h (e ∷ gap) a = (h e a.0, gap_all P Q h gap a.1)

    gap_each : (P : Update T → Type 0) → ((e : Entry) → P (at_time f e)) → (gap : List Entry) → AllByRecursion P (map (at_time f) gap)
    gap_each P h [] = tt
    gap_each P h (e ∷ gap) = (h e, gap_each P h gap)

    listed_more : (us : List (Update T)) (gap : List Entry) → IsTrue (has_passed times frontier f) → IsListed times cmp frontier wanted (take i join_closure) us → IsBag gap
        → ((row : List ℤ) → count_of gap row +ℤ count_of (as_of times f us) row ≡ count_of (wanted f) row) → IsListed times cmp frontier wanted (take (i + 1) join_closure) (us ++ map (at_time f) gap)
    listed_more us gap passed so bag fills = record {
      sums = λ t c h. ⊎_elim (λ d. old t d h) (λ e. subst (λ s. Alike (as_of times s (us ++ map (at_time f) gap)) (wanted s)) e new) (next_cases t c);
      among = all_both (λ u. IsTrue (has_passed times frontier u.time) × Contains (take (i + 1) join_closure) u.time) us (map (at_time f) gap)
          (all_weaker (λ u. IsTrue (has_passed times frontier u.time) × Contains (take i join_closure) u.time) (λ u. IsTrue (has_passed times frontier u.time) × Contains (take (i + 1) join_closure) u.time) (λ u h. (h.0, next_old u.time h.1)) us so.among)
          (gap_each (λ u. IsTrue (has_passed times frontier u.time) × Contains (take (i + 1) join_closure) u.time) (λ e. (passed, next_new)) gap);
      consolidated = record {
        ascending = sorted_both (by_time_then_row cmp) us (map (at_time f) gap) so.consolidated.ascending (gap_sorted gap bag.ascending)
            (all_weaker (λ u. IsTrue (has_passed times frontier u.time) × Contains (take i join_closure) u.time) (λ u. AllByRecursion (λ v. by_time_then_row cmp u v ≡ Less) (map (at_time f) gap))
            (λ u h. gap_each (λ v. by_time_then_row cmp u v ≡ Less) (λ e. ap (λ r. ordering_then r (slice_cmp int_cmp u.row e.row)) (in_front u.time h.1)) gap) us so.among);
        nonzero = all_both (λ u. u.diff ≢ pos 0) us (map (at_time f) gap) so.consolidated.nonzero (gap_all (λ u. u.diff ≢ pos 0) (λ e. e.count ≢ pos 0) (λ e n. n) gap bag.nonzero);
      };
    }
      where
        behind : (t : T) → Contains (take i join_closure) t → (v : Bool) → times.below f t ≡ v → times.below f t ≡ false
        behind t c true e = absurd (not_behind t f (in_front t c) e)
        behind t c false e = e

        old : (t : T) → Contains (take i join_closure) t → IsTrue (has_passed times frontier t) → Alike (as_of times t (us ++ map (at_time f) gap)) (wanted t)
        old t c h row =
            ap (λ es. count_of es row) (sum_both times t us (map (at_time f) gap) ∙ (ap (λ es. as_of times t us ++ es) (sum_at_time times t f gap false (behind t c (times.below f t) refl)) ∙ append-nil (as_of times t us)))
            ∙ so.sums t c h row

        new : Alike (as_of times f (us ++ map (at_time f) gap)) (wanted f)
        new row =
            ap (λ es. count_of es row) (sum_both times f us (map (at_time f) gap) ∙ ap (λ es. as_of times f us ++ es) (sum_at_time times f f gap true (o.reflexive f)))
            ∙ (count_of-append (as_of times f us) gap row ∙ (swap (count_of (as_of times f us) row) (count_of gap row) ∙ fills row))
          where
            swap : (m n : ℤ) → m +ℤ n ≡ n +ℤ m
            swap m n = omega (arith, ints)

    -- if f has passed, the list is extended by the difference there
    pub listed_next : (us vs : List (Update T)) → is_beyond times frontier f ≡ false → ContinuesListing times f (wanted f) us vs → IsListed times cmp frontier wanted (take i join_closure) us → IsListed times cmp frontier wanted (take (i + 1) join_closure) vs
    listed_next us vs passed on so = subst (IsListed times cmp frontier wanted (take (i + 1) join_closure)) (sym on.2) (listed_more us on.0 (ap not passed) so on.1 on.3)

    -- before f, the list sums to the wanted rows at each time
    sums_before : (us : List (Update T)) → IsTrue (has_passed times frontier f) → IsListed times cmp frontier wanted (take i join_closure) us → (s : T) → IsTrue (times.below s f) → (s ≡ f → ⊥) → Alike (as_of times s us) (wanted s)
    sums_before us passed so s h n =
        let early = passed_before o frontier s f h passed in
        ⊎_elim
        (λ none row.
        ap (λ es. count_of es row) (sum_none times s us (all_weaker (λ u. IsTrue (has_passed times frontier u.time) × Contains (take i join_closure) u.time) (λ u. times.below u.time s ≡ false) (λ u c. none u.time (from_grid u.time c.1)) us so.among))
        ∙ sym (wanted_none s early none row))
        (λ r.
        let g = r.0 in
        let same = sum_same times s r.0 us (all_weaker (λ u. IsTrue (has_passed times frontier u.time) × Contains (take i join_closure) u.time) (λ u. times.below u.time s ≡ times.below u.time r.0) (λ u c. same_below s r.0 r.2.0 r.2.1 u.time (from_grid u.time c.1)) us so.among) in
        λ row.
        ap (λ es. count_of es row) same
        ∙ (so.sums r.0 (before r.0 r.1 (o.transitive r.0 s f r.2.0 h) (λ e. n (o.antisymmetric s f h (subst (λ g. IsTrue (times.below g s)) e r.2.0)))) (passed_before o frontier r.0 f (o.transitive r.0 s f r.2.0 h) passed) row
        ∙ sym (wanted_same s r.0 early r.2.0 r.2.1 row)))
        (last_of o b frontier join_closure is.closed s early)
      where
        less_from : (g : T) → IsTrue (times.below g f) → (g ≡ f → ⊥) → cmp g f ≡ Less
        less_from g l m = step (cmp g f) refl (x.extends g f l)
          where
            step : (r : Ordering) → cmp g f ≡ r → is_le r ≡ true → r ≡ Less
            step Less e k = refl
            step Equal e k = absurd (m (x.exact g f e))
            step Greater e k = absurd (true≢false (sym k))

        before : (g : T) → Contains join_closure g → IsTrue (times.below g f) → (g ≡ f → ⊥) → Contains (take i join_closure) g
        before g c l m =
            let less = less_from g l m in
            ⊎_elim
            (λ k. (c.0, omega (arith, k, length-take-le i join_closure (omega (arith, inside))), get_or-take i join_closure c.0 g k ∙ c.2))
            (λ k. absurd (⊎_elim
            (λ e. m (sym c.2 ∙ (ap (λ j. get_or join_closure j g) (sym e) ∙ (get_or_default join_closure i g f inside ∙ sym here))))
            (λ j.
            let back : cmp f g ≡ Less = (λ q. cmp (here q) (sym c.2 q)) ∙ (ap (λ t. cmp t (get_or join_closure c.0 g)) (get_or_default join_closure i f g inside) ∙ sorted_at cmp join_closure is.ascending i c.0 g j c.1) in
            not_behind f g back l)
            (eq-or-lt_of_le k)))
            (cases_lt c.0 i)

    -- a number that is too large at one time is a cause for the whole list
    pub listed_large : (us : List (Update T)) → is_beyond times frontier f ≡ false → IsListed times cmp frontier wanted (take i join_closure) us → HasLargeAbove p (sums_at times p lists f) view ⊎ HasLargeGap times f (wanted f) us → HasLargeDifference times p lists frontier view
    listed_large us passed so large = (
      f,
      ap not passed,
      ⊎_elim
          (λ query. inl query)
          (λ gap. inr (
            us,
            sums_before us (ap not passed) so,
            all_weaker (λ u. IsTrue (has_passed times frontier u.time) × Contains (take i join_closure) u.time) (λ u. u.time ≡ f → ⊥) (λ u c e. true≢false (ap is_eq (sym (same_order f) ∙ (ap (λ t. cmp t f) (sym e) ∙ in_front u.time c.1)))) us so.among,
            gap,
          ))
          large,
    )

  -- before the first time the list is empty
  pub listed_none : IsListed times cmp frontier wanted (take 0 join_closure) []
  unfolding IsStrictlySortedBy
  listed_none = record {
    sums = λ t c h. absurd (omega (arith, c.1));
    among = tt;
    consolidated = record { ascending = tt; nonzero = tt };
  }

  -- the finished list is the differences of the view
  pub listed_all : (us : List (Update T)) → IsListed times cmp frontier wanted join_closure us → AreDifferences times cmp p (list_of p lists) frontier view us
  listed_all us so = record {
    consolidated = so.consolidated;
    passed = all_passed us so.among;
    sums = sums;
  }
    where
      all_passed : (us : List (Update T)) → AllByRecursion (λ u. IsTrue (has_passed times frontier u.time) × Contains join_closure u.time) us → IsTrue (list_all (λ u. has_passed times frontier u.time) us)
      all_passed [] a = refl
      all_passed (u ∷ us) a = and_from (has_passed times frontier u.time) (list_all (λ u. has_passed times frontier u.time) us) a.0.0 (all_passed us a.1)

      sums : (t : T) → IsTrue (has_passed times frontier t) → Alike (as_of times t us) (wanted t)
      sums t h =
          ⊎_elim
          (λ none row.
          ap (λ es. count_of es row) (sum_none times t us (all_weaker (λ u. IsTrue (has_passed times frontier u.time) × Contains join_closure u.time) (λ u. times.below u.time t ≡ false) (λ u c. none u.time c.1) us so.among))
          ∙ sym (wanted_none t h none row))
          (λ r row.
          ap (λ es. count_of es row) (sum_same times t r.0 us (all_weaker (λ u. IsTrue (has_passed times frontier u.time) × Contains join_closure u.time) (λ u. times.below u.time t ≡ times.below u.time r.0) (λ u c. same_below t r.0 r.2.0 r.2.1 u.time c.1) us so.among))
          ∙ (so.sums r.0 r.1 (passed_before o frontier r.0 t r.2.0 h) row ∙ sym (wanted_same t r.0 h r.2.0 r.2.1 row)))
          (last_of o b frontier join_closure is.closed t h)

  -- once the loop over the closure has ended, the list is the differences of the view
  pub listed_end : (i : ℕ) → length join_closure ≤ i → (us : List (Update T)) → IsListed times cmp frontier wanted (take i join_closure) us → AreDifferences times cmp p (list_of p lists) frontier view us
  listed_end i long us so = listed_all us (subst (λ ts. IsListed times cmp frontier wanted ts us) (take_all i join_closure long) so)

-- ---- the open times

next_number : (n : ℕ) → n + 1 ≡ suc n
next_number n = omega arith

next_feeders : (p : List Node) (view n : ℕ) → filter (λ m. feeds p m view) (numbers_below (n + 1)) ≡ filter (λ m. feeds p m view) (numbers_below n) ++ cond (feeds p n view) (n ∷ []) []
next_feeders p view n = ap (λ k. filter (λ m. feeds p m view) (numbers_below k)) (next_number n) ∙ filter-append (λ m. feeds p m view) (numbers_below n) (n ∷ [])

-- the step over an input that feeds the view: its frontier is appended
pub feeds_more : (T : Type 0) (p : List Node) (frontiers : ℕ → List T) (view n : ℕ) (old new : List T) → feeds p n view ≡ true → old ≡ flat_map frontiers (filter (λ m. feeds p m view) (numbers_below n)) → new ≡ old ++ frontiers n → new ≡ flat_map frontiers (filter (λ m. feeds p m view) (numbers_below (n + 1)))
feeds_more T p frontiers view n old new h e f =
    f ∙ (ap (λ xs. xs ++ frontiers n) e
    ∙ (flat_map_more frontiers [] (filter (λ m. feeds p m view) (numbers_below n)) n
    ∙ ap (flat_map frontiers) (sym (next_feeders p view n ∙ ap (λ b. filter (λ m. feeds p m view) (numbers_below n) ++ cond b (n ∷ []) []) h))))

-- the step over a node that does not feed the view: nothing is appended
pub feeds_same : (T : Type 0) (p : List Node) (frontiers : ℕ → List T) (view n : ℕ) (old : List T) → feeds p n view ≡ false → old ≡ flat_map frontiers (filter (λ m. feeds p m view) (numbers_below n)) → old ≡ flat_map frontiers (filter (λ m. feeds p m view) (numbers_below (n + 1)))
feeds_same T p frontiers view n old h e =
    e ∙ ap (flat_map frontiers) (sym (next_feeders p view n ∙ (ap (λ b. filter (λ m. feeds p m view) (numbers_below n) ++ cond b (n ∷ []) []) h ∙ append-nil (filter (λ m. feeds p m view) (numbers_below n)))))
