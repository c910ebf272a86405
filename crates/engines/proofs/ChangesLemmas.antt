-- The list that is built time by time is consolidated, sums to the query at each time that has
-- passed, and is the only such list.
use Rattle.std.proofs.Common.{◌≡◌, ℕ, zero, suc, ◌+◌, ◌<◌, ◌≤◌, Bool, true, false, cond, not, List, [], ◌∷◌, ◌++◌, map, take, drop, length, get_or, IsTrue, ◌⊎◌, inl, inr, ⊎_elim, refl, sym, ◌∙◌, ap, subst, take_all, eqb, arith}
use Rattle.std.specs.Cmp.{IsTotalOrder}
use Rattle.std.specs.List.{filter, list_all, Contains}
use Rattle.std.specs.declared.cmp.Ordering.{Ordering}
use Rattle.std.proofs.lemmas.Bool.{and_parts}
use Rattle.std.proofs.lemmas.Int.{ints}
use Rattle.std.proofs.lemmas.List.Elements.{Contains-get_or}
use Rattle.lattice.specs.Times.{Times}
use Rattle.lattice.specs.Frontiers.{is_beyond}
use Rattle.lattice.proofs.FrontierLemmas.{beyond_up}
use Rattle.antichain.proofs.AntichainLemmas.{not_true, not_from}
use Rattle.lattice.specs.Order.{PartialOrderLaws, LatticeLaws, ExtendsLaws}
use Rattle.antichain.proofs.Lists.{Among, among_contains, contains_among}
use Rattle.update.specs.Bags.{Entry, Alike, count_of}
use Rattle.update.specs.Joins.{joins_of}
use Rattle.update.specs.Updates.{as_of}
use Rattle.update.specs.declared.change.Update.{Update}
use Rattle.update.proofs.UniqueLemmas.{same_totals, same_updates}
use Rattle.plan.specs.Ancestors.{reaches}
use Rattle.plan.specs.Nodes.{node_at, is_input}
use Rattle.plan.specs.Changes.{AreDifferences, has_passed, query_at}
use Rattle.plan.specs.Edges.{numbers_where}
use Rattle.plan.specs.Operators.{negated_entry}
use Rattle.plan.specs.Rules.{IsPlan}
use Rattle.plan.specs.declared.node.Node.{Node}
use Rattle.plan.proofs.CountLemmas.{count_of-append, count_of-negated_entry}
use Rattle.plan.proofs.StandLemmas.{above_earlier}
use Rattle.histories.specs.declared.event.Fed.{Fed}
use Rattle.histories.specs.Histories.States.{fed_to}
use Rattle.oracle.specs.Evaluation.{list_of}
use Rattle.oracle.specs.JoinClosures.{Covers, HasPassedTimes, IsClosed, IsJoinClosure}
use Rattle.oracle.specs.Listing.{at_time, ContinuesListing, IsListed}
use Rattle.oracle.proofs.DifferenceLemmas.{listed_none, listed_skip, listed_next, listed_all}
use Rattle.oracle.proofs.JoinClosureLemmas.{more, more_closed, more_new, more_old, closed_same, closed_none}
use Rattle.engines.specs.Changes.{missing, listed_along, changes_along}
use Rattle.engines.specs.Orders.{in_order}
use Rattle.engines.proofs.BagLemmas.{consolidated_bag-is_bag, consolidated_bag-alike}
use Rattle.engines.proofs.InputLemmas.{query_at_inputs, list_of_input}
use Rattle.engines.proofs.OrderLemmas.{in_order-sorted, in_order-has, in_order-only}

-- ---- the times at which the list may change

module _ {T : Type 0} {times : Times T} {cmp : T → T → Ordering} (o : PartialOrderLaws times) (b : LatticeLaws times) (x : ExtendsLaws times cmp) (total : IsTotalOrder cmp) where
  -- the empty frontier has passed every time
  no_frontier : (ts : List T) → filter (has_passed times []) ts ≡ ts
  no_frontier [] = refl
  no_frontier (t ∷ ts) = ap (λ (us : List T). t ∷ us) (no_frontier ts)

  -- so the joins of one more time are what a join closure gains by it if the frontier is empty
  joins_more : (t : T) (ts : List T) → more o b [] (joins_of times ts) t ≡ joins_of times (t ∷ ts)
  joins_more t ts = ap (λ (js : List T). (joins_of times ts ++ js) ++ t ∷ []) (no_frontier (map (λ s. times.joined s t) (joins_of times ts)))

  joins_closed : (ts : List T) → IsClosed times [] (joins_of times ts)
  joins_closed [] = closed_none times []
  joins_closed (t ∷ ts) = subst (IsClosed times []) (joins_more t ts) (more_closed o b [] (joins_of times ts) t (joins_closed ts))

  joins_have : (ts : List T) (s : T) → Among s ts → Contains (joins_of times ts) s
  joins_have [] s h = absurd h
  joins_have (t ∷ ts) s h =
      ⊎_elim
      (λ e. subst (Contains (joins_of times (t ∷ ts))) e (subst (λ (us : List T). Contains us t) (joins_more t ts) (more_new o b [] (joins_of times ts) t)))
      (λ k. subst (λ (us : List T). Contains us s) (joins_more t ts) (more_old o b [] (joins_of times ts) t s (joins_have ts s k)))
      h

  to_order : (ts : List T) (s : T) → Contains ts s → Contains (in_order cmp ts) s
  to_order ts s c = contains_among s (in_order cmp ts) (in_order-has cmp x.exact ts s (among_contains s ts c))

  from_order : (ts : List T) (s : T) → Contains (in_order cmp ts) s → Contains ts s
  from_order ts s c = contains_among s ts (in_order-only cmp ts s (among_contains s (in_order cmp ts) c))

  module _ (p : List Node) (fed : List (Fed T)) where
    abbrev pub fed_times : List T
    fed_times = map (λ f. f.update.time) fed

    abbrev pub grid : List T
    grid = in_order cmp (joins_of times fed_times)

    -- the changes of each input, in the order of the inputs' numbers
    abbrev pub lists : List (List (Update T))
    lists = map (λ i. fed_to i fed) (numbers_where is_input p)

    in_join_closure : (s : T) → Among s fed_times → Contains grid s
    in_join_closure s h = to_order (joins_of times fed_times) s (joins_have fed_times s h)

    fed_in : (i : ℕ) (fs : List (Fed T)) (u : Update T) → Among u (fed_to i fs) → Among u.time (map (λ f. f.update.time) fs)
    fed_in i [] u h = absurd h
    fed_in i (f ∷ fs) u h = by (eqb f.input i) h (λ k. fed_in i fs u k)
      where
        by : (v : Bool) → Among u (cond v (f.update ∷ []) [] ++ fed_to i fs) → (Among u (fed_to i fs) → Among u.time (map (λ f. f.update.time) fs)) → (f.update.time ≡ u.time) ⊎ Among u.time (map (λ f. f.update.time) fs)
        by true h rest = ⊎_elim (λ e. inl (ap (λ (w : Update T). w.time) e)) (λ k. inr (rest k)) h
        by false h rest = inr (rest h)

    module _ (plan : IsPlan p) (view : ℕ) (within : view < length p) (frontier : List T) where
      -- the wanted rows by the accepted changes; those by the lists, `listed_wanted`, are the same
      abbrev wanted : T → List Entry
      wanted t = query_at times p (λ i. fed_to i fed) view t

      abbrev listed_wanted : T → List Entry
      listed_wanted t = query_at times p (list_of p lists) view t

      same_wanted : (t : T) → Alike (listed_wanted t) (wanted t)
      same_wanted t = query_at_inputs p plan (λ i. as_of times t (list_of p lists i)) (λ i. as_of times t (fed_to i fed)) (λ n l i row. ap (λ us. count_of (as_of times t us) row) (list_of_input p (λ i. fed_to i fed) n l i)) view within

      -- the list of an input that feeds the view has only times of the closure
      covered : Covers times p (list_of p lists) frontier view grid
      covered input feeds =
          let parts = and_parts (is_input (node_at p input)) (reaches p input view) feeds in
          let before = above_earlier p plan input view parts.1 in
          let is = list_of_input p (λ i. fed_to i fed) input (omega (arith, before, within)) parts.0 in
          subst (HasPassedTimes times frontier grid) (sym is)
          (λ k u inside passed.
          let here = get_or (fed_to input fed) k u in
          in_join_closure here.time (fed_in input fed here (among_contains here (fed_to input fed) (Contains-get_or (fed_to input fed) k u inside))))

      is_join_closure : IsJoinClosure times cmp p (list_of p lists) frontier view grid
      is_join_closure = record {
        ascending = in_order-sorted cmp total (joins_of times fed_times);
        closed = λ s t c d h. closed_same times [] (joins_of times fed_times) grid (to_order (joins_of times fed_times)) (from_order (joins_of times fed_times)) (joins_closed fed_times) s t c d refl;
        covers = covered;
      }

      -- the list plus what is missing at t sums to the wanted rows
      fills : (t : T) (us : List (Update T)) → ContinuesListing times t (listed_wanted t) us (us ++ map (at_time t) (missing times (wanted t) t us))
      fills t us = (
        missing times (wanted t) t us,
        consolidated_bag-is_bag (wanted t ++ map negated_entry (as_of times t us)),
        refl,
        λ row.
            let entries = wanted t ++ map negated_entry (as_of times t us) in
            let counts = consolidated_bag-alike entries row in
            let parts = count_of-append (wanted t) (map negated_entry (as_of times t us)) row in
            let opposite = count_of-negated_entry (as_of times t us) row in
            let same = same_wanted t row in
            omega (arith, ints),
      )

      abbrev IsListedUpTo : ℕ → List (Update T) → Type 0
      IsListedUpTo n us = IsListed times cmp frontier listed_wanted (take n grid) us

      step : (n : ℕ) (t : T) (us : List (Update T)) → n < length grid → t ≡ get_or grid n t → IsListedUpTo n us
          → IsListedUpTo (n + 1) (cond (has_passed times frontier t) (us ++ map (at_time t) (missing times (wanted t) t us)) us)
      step n t us l e so = by (is_beyond times frontier t) refl
        where
          by : (v : Bool) → is_beyond times frontier t ≡ v → IsListedUpTo (n + 1) (cond (not v) (us ++ map (at_time t) (missing times (wanted t) t us)) us)
          by true late = listed_skip o b x total p plan lists view within frontier grid is_join_closure n t l e us late so
          by false passed = listed_next o b x total p plan lists view within frontier grid is_join_closure n t l e us (us ++ map (at_time t) (missing times (wanted t) t us)) passed (fills t us) so

      along : (n : ℕ) (ts : List T) (us : List (Update T)) → drop n grid ≡ ts → IsListedUpTo n us → IsListed times cmp frontier listed_wanted grid (listed_along times frontier wanted ts us)
      along n [] us e so = subst (λ (g : List T). IsListed times cmp frontier listed_wanted g us) (take_all n grid (past grid n e)) so
        where
          past : (xs : List T) (n : ℕ) → drop n xs ≡ [] → length xs ≤ n
          past [] n e = omega arith
          past (x ∷ xs) zero e = absurd cc
          past (x ∷ xs) (suc n) e = let k = past xs n e in omega (arith, k)
      along n (t ∷ ts) us e so =
          let h = here grid n e in
          let more = cond (has_passed times frontier t) (us ++ map (at_time t) (missing times (wanted t) t us)) us in
          let next : n + 1 ≡ suc n = omega arith in
          along (suc n) ts more h.2 (subst (λ (m : ℕ). IsListedUpTo m more) next (step n t us h.0 h.1 so))
        where
          here : (xs : List T) (n : ℕ) → drop n xs ≡ t ∷ ts → (n < length xs) × (t ≡ get_or xs n t) × (drop (suc n) xs ≡ ts)
          here [] zero e = absurd cc
          here [] (suc n) e = absurd cc
          here (x ∷ xs) zero e = (omega arith, first, rest)
            where
              first : t ≡ x
              first = cc

              rest : xs ≡ ts
              rest = cc
          here (x ∷ xs) (suc n) e = let k = here xs n e in (omega (arith, k.0), k.1, k.2)

      listed : IsListed times cmp frontier listed_wanted grid (changes_along times cmp frontier wanted fed_times)
      listed = along 0 grid [] refl (listed_none o b x total p plan lists view within frontier grid is_join_closure)

      -- answers the clause `differences` of the_changes_of_a_view
      pub changes_are : AreDifferences times cmp p (λ i. fed_to i fed) frontier view (changes_along times cmp frontier wanted fed_times)
      changes_are =
          let d = listed_all o b x total p plan lists view within frontier grid is_join_closure (changes_along times cmp frontier wanted fed_times) listed in
          record {
            consolidated = d.consolidated;
            passed = d.passed;
            sums = λ t h row. d.sums t h row ∙ same_wanted t row;
          }

-- ---- there is no other list

module _ {T : Type 0} {times : Times T} {cmp : T → T → Ordering} (o : PartialOrderLaws times) (total : IsTotalOrder cmp) (p : List Node) (changes : ℕ → List (Update T)) (frontier : List T) (view : ℕ) where
  all_pass : (us : List (Update T)) → IsTrue (list_all (λ u. has_passed times frontier u.time) us) → filter (λ u. has_passed times frontier u.time) us ≡ us
  all_pass [] h = refl
  all_pass (u ∷ us) h =
      let parts = and_parts (has_passed times frontier u.time) (list_all (λ u. has_passed times frontier u.time) us) h in
      ap (λ v. cond v (u ∷ filter (λ u. has_passed times frontier u.time) us) (filter (λ u. has_passed times frontier u.time) us)) parts.0
      ∙ ap (λ (vs : List (Update T)). u ∷ vs) (all_pass us parts.1)

  -- turns the changes that an engine found into those that the text prints
  pub differences_only : (us vs : List (Update T)) → AreDifferences times cmp p changes frontier view us → AreDifferences times cmp p changes frontier view vs → us ≡ vs
  differences_only us vs d e =
      let down = λ (s t : T) (h : IsTrue (times.below s t)) (k : IsTrue (has_passed times frontier t)). passed_down s t h k in
      let totals = same_totals o (has_passed times frontier) us vs down (λ t h row. d.sums t h row ∙ sym (e.sums t h row)) in
      sym (all_pass us d.passed)
      ∙ same_updates o total (has_passed times frontier) us vs totals d.consolidated e.consolidated
      ∙ all_pass vs e.passed
    where
      passed_down : (s t : T) → IsTrue (times.below s t) → IsTrue (has_passed times frontier t) → IsTrue (has_passed times frontier s)
      passed_down s t h k = not_from (is_beyond times frontier s) (λ c. not_true (is_beyond times frontier t) k (beyond_up o frontier s t c h))
