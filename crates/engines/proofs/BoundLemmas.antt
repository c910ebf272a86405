-- If a number is too large, the bound of some node is too large. Each node of a plan has a list of
-- updates that sums to the query at every time, and whose size is at most the node's bound: what a
-- linear node makes of the lists of its sources, the pairs of a join, and the differences of a
-- reduction. So at no time is the count of a row larger than the bound, and neither are a total of
-- a view's changes, the product of two counts that a join forms, and the total of a key that a
-- count counts.
use Rattle.std.proofs.Common.{◌≡◌, ℕ, ◌+◌, ◌*◌, ◌<◌, ◌≤◌, ◌^◌, Bool, true, false, cond, ◌&&◌, mul-le-mul, List, [], ◌∷◌, ◌++◌, map, length, Option, Some, None, slice_get, IsTrue, ⊎_elim, refl, sym, ◌∙◌, ap, ap₂, subst, arith, w64, FitsSigned}
use Rattle.std.specs.Cmp.{IsTotalOrder}
use Rattle.std.specs.Prelude.{ℤ, pos, neg_ℤ, ◌+ℤ◌, ◌*ℤ◌, take, unsigned_abs}
use Rattle.std.specs.List.{AllByRecursion, filter}
use Rattle.std.specs.declared.cmp.Ordering.{Ordering}
use Rattle.std.proofs.lemmas.Bool.{cases_lt, and_parts, true≢false}
use Rattle.std.proofs.lemmas.Int.{ints, fits_signed_from_abs, unsigned_abs-mul}
use Rattle.std.proofs.lemmas.List.{append-nil}
use Rattle.lattice.specs.Times.{Times}
use Rattle.lattice.specs.Order.{PartialOrderLaws, LatticeLaws, ExtendsLaws}
use Rattle.lattice.proofs.BoundLemmas.{join_below}
use Rattle.update.specs.Bags.{Entry, Alike, HasLargeCount, count_of, same_row}
use Rattle.update.specs.Updates.{as_of, entry, size, total_at, total_where, HasLargeTotal}
use Rattle.update.specs.declared.change.Update.{Update}
use Rattle.update.proofs.ConsolidatedLemmas.{summed_size, summed_size_is}
use Rattle.update.proofs.SumLemmas.{total_where-filter, total_by-append, total_by-zero}
use Rattle.update.proofs.UniqueLemmas.{count_as_of, same_totals, at_each}
use Rattle.plan.specs.Changes.{query_at}
use Rattle.plan.specs.Nodes.{node_at, sources, key_width, is_reduction}
use Rattle.plan.specs.Operators.{negated_entry, operator_output}
use Rattle.plan.specs.Queries.{source_value}
use Rattle.plan.specs.Reductions.{has_key, sum_of_counts}
use Rattle.plan.specs.Rules.{IsPlan}
use Rattle.plan.specs.Bounds.{bound_by, output_bound, HasLargeBound}
use Rattle.plan.specs.declared.node.Node.{Node}
use Rattle.plan.specs.declared.node.Node.TheVariants.{Join, Reduce}
use Rattle.plan.proofs.BoundLemmas.{output_bound-le, own_free}
use Rattle.linear.proofs.OutputLemmas.{whole_output, whole_output-le, whole_output_sums}
use Rattle.plan.proofs.OperatorLemmas.{given_alike}
use Rattle.plan.proofs.PlanLemmas.{source_smaller}
use Rattle.plan.proofs.StepLemmas.{query_by_sources, bound_by_sources}
use Rattle.plan.proofs.UpwardLemmas.{by_smaller}
use Rattle.plan.proofs.CountLemmas.{count_of-append, count_of-filter, count_of-negated_entry, weigh_alike}
use Rattle.linear.proofs.SumLemmas.{as_of-append}
use Rattle.join.specs.Pairs.{pairs}
use Rattle.join.proofs.PairLemmas.{pairs_at, size_pairs}
use Rattle.oracle.specs.Listing.{at_time, HasLargeGap}
use Rattle.engines.proofs.EveryBoundLemmas.{all_differences, are_differences, are_own, own, reduction_within}

-- ---- sizes

-- a number that does not fit in 64 bits has an absolute value of 2^63 or more
not_fits : (x : ℤ) → (FitsSigned w64 x → ⊥) → 2 ^ 63 ≤ unsigned_abs x
not_fits x h = ⊎_elim (λ l. absurd (h (fits_signed_from_abs w64 x l))) (λ l. l) (cases_lt (unsigned_abs x) (2 ^ 63))

module _ {T : Type 0} where
  -- a total is at most the size of the list
  total_within : (q : List ℤ → T → Bool) (us : List (Update T)) → unsigned_abs (total_where q us) ≤ summed_size us
  total_within q [] = omega arith
  total_within q (u ∷ us) =
      let rest = total_within q us in
      elim (q u.row u.time) as (λ b. unsigned_abs (cond b u.diff (pos 0) +ℤ total_where q us) ≤ unsigned_abs u.diff + summed_size us) [
        | true ↦ omega (arith, ints)
        | false ↦ omega (arith, ints)
      ]

  large_total : (q : List ℤ → T → Bool) (us : List (Update T)) → (FitsSigned w64 (total_where q us) → ⊥) → 2 ^ 63 ≤ summed_size us
  large_total q us h = let large = not_fits (total_where q us) h in let within = total_within q us in omega (arith, large, within)

  -- so is the total of a key at a time
  number_within : (times : Times T) (k : ℕ) (key : List ℤ) (t : T) (us : List (Update T)) → unsigned_abs (sum_of_counts (filter (has_key k key) (as_of times t us))) ≤ summed_size us
  number_within times k key t [] = omega arith
  number_within times k key t (u ∷ us) = step (times.below u.time t) (number_within times k key t us)
    where
      seen : List (Update T)
      seen = filter (λ w. times.below w.time t) us

      of_key : List Entry
      of_key = filter (has_key k key) (map entry seen)

      counted : (c : Bool) → unsigned_abs (sum_of_counts of_key) ≤ summed_size us → unsigned_abs (sum_of_counts (cond c (entry u ∷ of_key) of_key)) ≤ unsigned_abs u.diff + summed_size us
      counted true h = omega (arith, ints, h)
      counted false h = omega (arith, h)

      step : (b : Bool) → unsigned_abs (sum_of_counts of_key) ≤ summed_size us → unsigned_abs (sum_of_counts (filter (has_key k key) (map entry (cond b (u ∷ seen) seen)))) ≤ unsigned_abs u.diff + summed_size us
      step true h = counted (same_row (take k u.row) key) h
      step false h = omega (arith, h)

filtered_alike : (test : List ℤ → Bool) (a b : List Entry) → Alike a b → Alike (filter (λ e. test e.row) a) (filter (λ e. test e.row) b)
filtered_alike test a b h row = count_of-filter test a row ∙ (ap (λ n. cond (test row) n (pos 0)) (h row) ∙ sym (count_of-filter test b row))

-- alike bags have the same total for each key
pub same_number : (k : ℕ) (key : List ℤ) (a b : List Entry) → Alike a b → sum_of_counts (filter (has_key k key) a) ≡ sum_of_counts (filter (has_key k key) b)
same_number k key a b h = weigh_alike (λ row n. n) (λ row m n. refl) (filter (has_key k key) a) (filter (has_key k key) b) (filtered_alike (λ row. same_row (take k row) key) a b h)

-- ---- the output of a node that is no reduction, as a list of updates

module _ {T : Type 0} (times : Times T) where
  abbrev made : ℕ → Node → (ℕ → List (Update T)) → List (Update T)
  made k (Join left right) lists = pairs times k (lists 0) (lists 1)
  made k node lists = whole_output node lists

  made_within : (k : ℕ) (node : Node) → is_reduction node ≡ false → (lists : ℕ → List (Update T)) → summed_size (made k node lists) ≤ output_bound node 0 (λ port. summed_size (lists port))
  made_within k (Join left right) plain lists =
      let product = size_pairs times k (lists 0) (lists 1) in
      subst (λ n. n ≤ summed_size (lists 0) * summed_size (lists 1)) (sym (summed_size_is (pairs times k (lists 0) (lists 1))))
      (subst (λ n. size (pairs times k (lists 0) (lists 1)) ≤ n * summed_size (lists 1)) (sym (summed_size_is (lists 0)))
      (subst (λ n. size (pairs times k (lists 0) (lists 1)) ≤ size (lists 0) * n) (sym (summed_size_is (lists 1))) product))
  made_within k (Reduce kind source) plain lists = absurd (true≢false plain)
  made_within k node plain lists = whole_output-le node refl 0 lists

  module _ (o : PartialOrderLaws times) (b : LatticeLaws times) where
    made_sums : (t : T) (k : ℕ) (node : Node) → is_reduction node ≡ false → (lists : ℕ → List (Update T)) → Alike (as_of times t (made k node lists)) (operator_output k node (λ port. as_of times t (lists port)))
    made_sums t k (Join left right) plain lists row = ap (λ es. count_of es row) (pairs_at times (join_below o b) k t (lists 0) (lists 1))
    made_sums t k (Reduce kind source) plain lists row = absurd (true≢false plain)
    made_sums t k node plain lists row = whole_output_sums times t k node refl lists row

-- ---- a list for each node of a plan, and numbers that are too large

module _ {T : Type 0} {times : Times T} {cmp : T → T → Ordering} (o : PartialOrderLaws times) (b : LatticeLaws times) (x : ExtendsLaws times cmp) (total : IsTotalOrder cmp) (p : List Node) (plan : IsPlan p) (changes : ℕ → List (Update T)) where
  abbrev limit : ℕ → ℕ
  limit = bound_by p (own o b x total p plan changes) (λ i. size (changes i))

  -- some list sums to the query at every time, and its size is at most the node's bound
  abbrev Told : ℕ → Type 0
  Told n = (us : List (Update T)) × ((t : T) → Alike (as_of times t us) (query_at times p changes n t)) × (summed_size us ≤ limit n)

  abbrev ToldAt : ℕ → Option ℕ → Type 0
  ToldAt n port = (us : List (Update T)) × ((t : T) → Alike (as_of times t us) (source_value (as_of times t (changes n)) (λ m. query_at times p changes m t) port)) × (summed_size us ≤ source_value (size (changes n)) limit port)

  told_at : (n : ℕ) → ((m : ℕ) → m < n → Told m) → (port : Option ℕ) → ((s : ℕ) → port ≡ Some s → s < n) → ToldAt n port
  told_at n rest None h = (changes n, (λ t row. refl), let same = summed_size_is (changes n) in omega (arith, same))
  told_at n rest (Some s) h = rest s (h s refl)

  -- what a node that is no reduction makes of the lists at its ports
  told_by : (n : ℕ) (node : Node) → node_at p n ≡ node → is_reduction node ≡ false → ((port : ℕ) → ToldAt n (slice_get (sources node) port)) → Told n
  told_by n node e plain at =
      let lists = λ (port : ℕ). (at port).0 in
      let k = key_width p node in (
        made times k node lists,
        (λ t row.
            made_sums times o b t k node plain lists row
            ∙ given_alike k node (λ port. as_of times t (lists port))
            (λ port. source_value (as_of times t (changes n)) (λ m. query_at times p changes m t) (slice_get (sources node) port)) (λ port seen. (at port).1 t) row
            ∙ ap (λ es. count_of es row)
            (sym (subst (λ (it : Node). query_at times p changes n t ≡ operator_output (key_width p it) it (λ port. source_value (as_of times t (changes n)) (λ m. query_at times p changes m t) (slice_get (sources it) port))) e
            (query_by_sources p plan (λ i. as_of times t (changes i)) n)))),
        (
            let made_le = made_within times k node plain lists in
            let ports_le = output_bound-le node 0 (λ port. summed_size (lists port)) (λ port. source_value (size (changes n)) limit (slice_get (sources node) port)) (λ port seen. (at port).2) in
            let free = own_free node 0 (own o b x total p plan changes n) (λ port. source_value (size (changes n)) limit (slice_get (sources node) port)) plain in
            let same = subst (λ (it : Node). limit n ≡ output_bound it (own o b x total p plan changes n) (λ port. source_value (size (changes n)) limit (slice_get (sources it) port))) e (bound_by_sources p plan (own o b x total p plan changes) (λ i. size (changes i)) n) in
            omega (arith, made_le, ports_le, free, same)),
      )

  told_from : (n : ℕ) (node : Node) → node_at p n ≡ node → ((port : ℕ) → ToldAt n (slice_get (sources node) port)) → Told n
  told_from n (Reduce kind source) e at =
      let list = all_differences o b x total p plan changes n in
      let is = are_differences o b x total p plan changes n (reduction_within o b x total p plan changes n source kind e) in (
        list,
        (λ t row. is.sums t refl row),
        (
            let same = summed_size_is list in
            let bound = subst (λ (it : Node). limit n ≡ output_bound it (own o b x total p plan changes n) (λ port. source_value (size (changes n)) limit (slice_get (sources it) port))) e (bound_by_sources p plan (own o b x total p plan changes) (λ i. size (changes i)) n) in
            omega (arith, same, bound)),
      )
  told_from n node e at = told_by n node e refl at

  told : (n : ℕ) → Told n
  told = by_smaller Told (λ n rest. told_from n (node_at p n) refl (λ port. told_at n rest (slice_get (sources (node_at p n)) port) (λ s e. source_smaller p plan n port s e)))

  -- if the bound of a node is large, some bound is
  bound_large : (n : ℕ) → n < length p → 2 ^ 63 ≤ limit n → HasLargeBound times cmp p changes
  bound_large n l large = (n, limit n, l, (own o b x total p plan changes, are_own o b x total p plan changes, refl), large)

  -- if the list of a node is large, so is its bound
  heavy : (n : ℕ) → n < length p → 2 ^ 63 ≤ summed_size (told n).0 → HasLargeBound times cmp p changes
  heavy n l large = let within = (told n).2 in bound_large n l (omega (arith, large, within))

  -- the count of a row is at most the bound of the node
  count_within : (n : ℕ) (t : T) (row : List ℤ) → unsigned_abs (count_of (query_at times p changes n t) row) ≤ limit n
  count_within n t row =
      let list = told n in
      let within = total_within (λ r u. same_row r row && times.below u t) list.0 in
      let le = list.2 in
      subst (λ c. unsigned_abs c ≤ limit n) (sym (count_as_of times row t list.0) ∙ list.1 t row) (omega (arith, within, le))

  -- if a join forms a product that is too large, so is its bound
  pub large_product : (n left right : ℕ) → n < length p → node_at p n ≡ Join left right → (t : T) (row other : List ℤ)
      → (FitsSigned w64 (count_of (query_at times p changes left t) row *ℤ count_of (query_at times p changes right t) other) → ⊥) → HasLargeBound times cmp p changes
  large_product n left right l e t row other large =
      let a = count_of (query_at times p changes left t) row in
      let c = count_of (query_at times p changes right t) other in
      let product = not_fits (a *ℤ c) large in
      let split = unsigned_abs-mul a c in
      let within = mul-le-mul (count_within left t row) (count_within right t other) in
      let same = subst (λ (it : Node). limit n ≡ output_bound it (own o b x total p plan changes n) (λ port. source_value (size (changes n)) limit (slice_get (sources it) port))) e (bound_by_sources p plan (own o b x total p plan changes) (λ i. size (changes i)) n) in
      bound_large n l (subst (λ m. 2 ^ 63 ≤ m) (sym same) (le_then (2 ^ 63) (unsigned_abs (a *ℤ c)) (limit left * limit right) product (subst (λ m. m ≤ limit left * limit right) (sym split) within)))
    where
      le_then : (i j k : ℕ) → i ≤ j → j ≤ k → i ≤ k
      le_then i j k g h = omega (arith, g, h)

  -- if the total of a key is too large, so is a bound
  pub large_number : (n : ℕ) → n < length p → (t : T) (k : ℕ) (key : List ℤ)
      → (FitsSigned w64 (sum_of_counts (filter (has_key k key) (query_at times p changes n t))) → ⊥) → HasLargeBound times cmp p changes
  large_number n l t k key large =
      let list = told n in
      let absolute = not_fits _ (λ fits. large (subst (FitsSigned w64) (same_number k key (as_of times t list.0) (query_at times p changes n t) (list.1 t)) fits)) in
      let within = number_within times k key t list.0 in
      heavy n l (omega (arith, absolute, within))

  -- if a count of the query is too large, so is a bound
  pub large_count : (n : ℕ) → n < length p → (t : T) → HasLargeCount (query_at times p changes n t) → HasLargeBound times cmp p changes
  large_count n l t (row, large) =
      let list = told n in
      heavy n l (large_total (λ r u. same_row r row && times.below u t) list.0
      (λ fits. large (subst (FitsSigned w64) (sym (count_as_of times row t list.0) ∙ list.1 t row) fits)))

  -- if a total of a list that sums to the query is too large, so is a bound
  pub large_listed : (n : ℕ) → n < length p → (among : T → Bool) → ((u t : T) → IsTrue (times.below u t) → IsTrue (among t) → IsTrue (among u))
      → (us : List (Update T)) → ((t : T) → IsTrue (among t) → Alike (as_of times t us) (query_at times p changes n t))
      → HasLargeTotal times (filter (λ u. among u.time) us) → HasLargeBound times cmp p changes
  large_listed n l among down us sums (row, t, large) = by (among t) refl
    where
      by : (b : Bool) → among t ≡ b → HasLargeBound times cmp p changes
      by true e =
          let list = told n in
          let kept = total_where-filter (λ r u. same_row r row && (times.below u t && times.below t u)) (λ u. among u.time) us (λ u h. down u.time t (and_parts _ _ (and_parts _ _ h).1).0 e) in
          let same = same_totals o among us list.0 down (λ v h row. sums v h row ∙ sym (list.1 v row)) row t e in
          heavy n l (large_total (λ r u. same_row r row && (times.below u t && times.below t u)) list.0 (λ fits. large (subst (FitsSigned w64) (sym (kept ∙ same)) fits)))
      by false e = absurd (large (subst (FitsSigned w64) (sym (nothing us)) (omega (arith, ints))))
        where
          nothing : (us : List (Update T)) → total_at times row t (filter (λ u. among u.time) us) ≡ pos 0
          nothing [] = refl
          nothing (u ∷ us) = step (among u.time) refl (nothing us)
            where
              step : (b : Bool) → among u.time ≡ b → total_at times row t (filter (λ u. among u.time) us) ≡ pos 0 → total_at times row t (cond b (u ∷ filter (λ u. among u.time) us) (filter (λ u. among u.time) us)) ≡ pos 0
              step false f h = h
              step true f h = out (same_row u.row row && (times.below u.time t && times.below t u.time)) refl h
                where
                  out : (b : Bool) → (same_row u.row row && (times.below u.time t && times.below t u.time)) ≡ b → total_at times row t (filter (λ u. among u.time) us) ≡ pos 0
                      → cond b u.diff (pos 0) +ℤ total_at times row t (filter (λ u. among u.time) us) ≡ pos 0
                  out true g h = absurd (true≢false (sym (down t u.time (and_parts _ _ (and_parts _ _ g).1).1 f) ∙ e))
                  out false g h = omega (arith, ints, h)

  -- the difference at a time: the query minus a list that sums to it at all earlier times
  module _ (n : ℕ) (l : n < length p) (t : T) (us : List (Update T)) (before : (u : T) → IsTrue (times.below u t) → (u ≡ t → ⊥) → Alike (as_of times u us) (query_at times p changes n u)) where
    abbrev pub wanted : List Entry
    wanted = query_at times p changes n t

    -- the wanted entries that are not listed yet
    abbrev pub unlisted_entries : List Entry
    unlisted_entries = wanted ++ map negated_entry (as_of times t us)

    abbrev pub further : List (Update T)
    further = us ++ map (at_time t) unlisted_entries

    at_once : (u : T) (b : Bool) → times.below t u ≡ b → (es : List Entry) → as_of times u (map (at_time t) es) ≡ cond b es []
    at_once u true h [] = refl
    at_once u false h [] = refl
    at_once u true h (e ∷ es) = rw h (ap (λ ds. e ∷ ds) (at_once u true h es))
    at_once u false h (e ∷ es) = rw h (at_once u false h es)

    unlisted_counts : (row : List ℤ) → count_of unlisted_entries row ≡ count_of wanted row +ℤ neg_ℤ (count_of (as_of times t us) row)
    unlisted_counts row = count_of-append wanted (map negated_entry (as_of times t us)) row ∙ ap (λ x. count_of wanted row +ℤ x) (count_of-negated_entry (as_of times t us) row)

    further_sums : (u : T) → IsTrue (times.below u t) → Alike (as_of times u further) (query_at times p changes n u)
    further_sums u h row = by (times.below t u) refl
      where
        by : (b : Bool) → times.below t u ≡ b → count_of (as_of times u further) row ≡ count_of (query_at times p changes n u) row
        by true e =
            let same : u ≡ t = o.antisymmetric u t h e in
            subst (λ (v : T). count_of (as_of times v further) row ≡ count_of (query_at times p changes n v) row) (sym same)
            (let parts = count_of-append (as_of times t us) unlisted_entries row in
            let counts = unlisted_counts row in
            ap (λ es. count_of es row) (as_of-append times t us (map (at_time t) unlisted_entries) ∙ ap (λ es. as_of times t us ++ es) (at_once t true (o.reflexive t) unlisted_entries))
            ∙ omega (arith, ints, parts, counts))
        by false e =
            ap (λ es. count_of es row) (as_of-append times u us (map (at_time t) unlisted_entries) ∙ ap (λ es. as_of times u us ++ es) (at_once u false e unlisted_entries))
            ∙ (ap (λ es. count_of es row) (append-nil (as_of times u us))
            ∙ before u h (λ same. true≢false (sym (o.reflexive t) ∙ (ap (times.below t) (sym same) ∙ e))) row)

    -- the list itself has nothing at the time, so its total there is what is not listed yet
    nothing_yet : (row : List ℤ) → AllByRecursion (λ u. u.time ≡ t → ⊥) us → total_at times row t us ≡ pos 0
    nothing_yet row apart = total_by-zero (λ u. cond (same_row u.row row && (times.below u.time t && times.below t u.time)) u.diff (pos 0)) us (λ u m. step u (at_each (λ v. v.time ≡ t → ⊥) us u apart m) (same_row u.row row && (times.below u.time t && times.below t u.time)) refl)
      where
        step : (u : Update T) → (u.time ≡ t → ⊥) → (b : Bool) → (same_row u.row row && (times.below u.time t && times.below t u.time)) ≡ b → cond b u.diff (pos 0) ≡ pos 0
        step u apart true e = let both = and_parts _ _ (and_parts _ _ e).1 in absurd (apart (o.antisymmetric u.time t both.0 both.1))
        step u apart false e = refl

    all_there : (row : List ℤ) (es : List Entry) → total_at times row t (map (at_time t) es) ≡ count_of es row
    all_there row [] = refl
    all_there row (e ∷ es) =
        rw (o.reflexive t) (ap₂ (λ x y. x +ℤ y) (same (same_row e.row row)) (all_there row es))
      where
        same : (b : Bool) → cond (b && true) e.count (pos 0) ≡ cond b e.count (pos 0)
        same true = refl
        same false = refl

    -- if the difference is too large, so is a bound
    pub large_gap : AllByRecursion (λ u. u.time ≡ t → ⊥) us → HasLargeGap times t wanted us → HasLargeBound times cmp p changes
    large_gap apart (row, large) =
        let list = told n in
        let same = same_totals o (λ u. times.below u t) further list.0 (λ u v h k. o.transitive u v t h k) (λ u h row. further_sums u h row ∙ sym (list.1 u row)) row t (o.reflexive t) in
        let parts = total_by-append (λ (u : Update T). cond (same_row u.row row && (times.below u.time t && times.below t u.time)) u.diff (pos 0)) us (map (at_time t) unlisted_entries) in
        let none_yet = nothing_yet row apart in
        let there = all_there row unlisted_entries in
        let counts = unlisted_counts row in
        let is : count_of wanted row +ℤ neg_ℤ (count_of (as_of times t us) row) ≡ total_at times row t list.0 = sym counts ∙ (sym there ∙ (omega (arith, ints, parts, none_yet) ∙ same)) in
        heavy n l (large_total (λ r u. same_row r row && (times.below u t && times.below t u)) list.0 (λ fits. large (subst (FitsSigned w64) (sym is) fits)))
