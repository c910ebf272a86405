-- What a node gave on all workers is within its bound. The proof goes down the plan. A node that is
-- no reduction gives no more than it received, which is no more than its sources gave. A reduction
-- gives the fewest absolute diffs of all lists with its sums.
use Rattle.update.proofs.ConsolidatedLemmas.{summed_size, summed_size_is, summed_size-append}
use Rattle.std.proofs.Common.{◌≡◌, ℕ, zero, suc, slice_get, ⊎_elim, ◌+◌, ◌<◌, ◌≤◌, Bool, true, false, cond, ◌&&◌, List, [], ◌∷◌, ◌++◌, take, length, sym, refl, ap, ◌∙◌, subst, Option, Some, None, eqb, arith, IsTrue, ◌⊎◌, inl, inr}
use Rattle.std.specs.List.{flat_map, filter}
use Rattle.std.specs.declared.cmp.Ordering.{Ordering}
use Rattle.std.proofs.lemmas.Bool.{or_from, or_parts, and_parts, eqb-true, cases_lt}
use Rattle.std.proofs.lemmas.Int.{ints}
use Rattle.std.proofs.lemmas.List.Folds.{list_any-append}
use Rattle.std.proofs.Math.IntN.{ℤ, pos, ◌+ℤ◌}
use Rattle.std.proofs.lemmas.Option.{slice_get_within}
use Rattle.lattice.specs.Times.{Times}
use Rattle.lattice.specs.Order.{PartialOrderLaws}
use Rattle.lattice.specs.Frontiers.{is_beyond}
use Rattle.antichain.proofs.Lists.{Among, contains_among}
use Rattle.update.specs.Bags.{count_of, total_by}
use Rattle.update.specs.Updates.{as_of, size}
use Rattle.update.specs.declared.change.Update.{Update}
use Rattle.plan.specs.Changes.{query_at, AreDifferences}
use Rattle.plan.specs.Nodes.{sources, arranged_by, key_width, is_linear, is_reduction, is_input}
use Rattle.plan.specs.Queries.{source_value}
use Rattle.plan.specs.Bounds.{output_bound, bound_by, AreOwn}
use Rattle.plan.specs.declared.kind.Kind.{Kind}
use Rattle.plan.specs.declared.node.Node.TheVariants.{Reduce}
use Rattle.plan.proofs.PlanLemmas.{source_smaller}
use Rattle.plan.proofs.StepLemmas.{bound_by_sources}
use Rattle.plan.proofs.UpwardLemmas.{by_smaller}
use Rattle.histories.specs.declared.event.Site.{Site}
use Rattle.histories.specs.declared.event.Event.{Event}
use Rattle.histories.specs.Histories.Dataflows.{Dataflow, IsDataflow, node_of, source_of, node_output, route}
use Rattle.histories.specs.Histories.States.{State, place, same_place, updates_at, emitted_by, emitted_at, fed_to, held_at}
use Rattle.histories.specs.Histories.Shares.{home, share_from, share, share_fed}
use Rattle.histories.specs.Histories.Outstanding.{input_frontier}
use Rattle.histories.specs.Histories.NodeLaws.{received_at}
use Rattle.histories.specs.Histories.{state_after, IsLegal}
use Rattle.histories.specs.Histories.Promises.{changes_in, AreOwed, KeepsBound, OwesWithinBound, TakesWithinBound, LoadsWithinBound}
use Rattle.histories.proofs.HistoryLemmas.ClaimLemmas.{some_within}
use Rattle.plan.proofs.SortLemmas.{no_source, reduction_is}
use Rattle.plan.proofs.BoundLemmas.{output_bound-le, output_bound-sum, own_free}
use Rattle.histories.proofs.HistoryLemmas.WorkerLemmas.{sum_at-filter}
use Rattle.plan.proofs.CountLemmas.{count_of-filter}
use Rattle.histories.specs.declared.event.Fed.{Fed}
use Rattle.histories.specs.declared.event.Emission.{Emission}
use Rattle.histories.proofs.HistoryLemmas.KeptLemmas.{IsKept, AreInputs, coming, kept_state}
use Rattle.histories.proofs.HistoryLemmas.SizeLemmas.{absolute, size_is, all, all-le, all-sum, all-product, all-emitted, all-routed, all-shared, all-fed}
use Rattle.histories.proofs.HistoryLemmas.LoadRuleLemmas.{IsLoaded, loaded_state, to_size}
use Rattle.histories.proofs.HistoryLemmas.FewestLemmas.{fewest, fewest_below, AgreeBelow}
use Rattle.histories.proofs.HistoryLemmas.PassedLemmas.{AllPassed, AllWere, each_passed, each_was, passed_down}
use Rattle.histories.proofs.HistoryLemmas.HeadlineLemmas.{part_lem, due_lem}
use Rattle.histories.proofs.HistoryLemmas.FlowLemmas.{is_passed}

-- nothing is fed to a node that is no input, and nothing is shared along a port without a source
nothing_fed : {T : Type 0} (p : Dataflow) (site : Site) (fs : List (Fed T)) → AreInputs p fs → (IsTrue (is_input (node_of p site.node)) → ⊥) → flat_map (share_fed p site) fs ≡ []
nothing_fed p site [] a d = refl
nothing_fed p site (f ∷ fs) a d = step (same_place (home p f) site) refl (nothing_fed p site fs a.1 d)
  where
    step : (b : Bool) → same_place (home p f) site ≡ b → flat_map (share_fed p site) fs ≡ [] → cond b (f.update ∷ []) [] ++ flat_map (share_fed p site) fs ≡ []
    step true e h = absurd (d (sym (ap (λ n. is_input (node_of p n)) (eqb-true f.input site.node (and_parts (eqb f.input site.node) (eqb 0 site.port && eqb (route p f.update.row) site.worker) e).0)) ∙ a.0))
    step false e h = h

nothing_shared : {T : Type 0} (p : Dataflow) (c : Option ℕ) (k : ℕ) (gs : List (Emission T)) → flat_map (share_from p None c k) gs ≡ []
nothing_shared p c k [] = refl
nothing_shared p c k (g ∷ gs) = nothing_shared p c k gs

-- a number is at most the sum that it is part of
all-one : (n : ℕ) (f : ℕ → ℕ) (k : ℕ) → k < n → f k ≤ all n f
all-one zero f k l = omega (arith, l)
all-one (suc n) f k l =
    ⊎_elim (λ less. let h = all-one n f k less in omega (arith, h))
    (λ equal. let same : k ≡ n = omega (arith, l, equal) in rw same (omega arith))
    (cases_lt k n)

some_port : (xs : List ℕ) (port s : ℕ) → slice_get xs port ≡ Some s → port < length xs
some_port xs port s e = slice_get_within xs port s e

module _ {T : Type 0} (times : Times T) (o : PartialOrderLaws times) (p : Dataflow) (q : IsDataflow p) (w : State T) (kept : IsKept times p w) where
  abbrev got : ℕ → ℕ → ℕ → ℕ
  got n port k = summed_size (received_at w n k port)

  -- what was received at a place is no more than what was sent or fed to it
  received_le : (site : Site) → summed_size (updates_at site w.received) ≤ summed_size (flat_map (share p site) w.emitted) + summed_size (flat_map (share_fed p site) w.fed)
  received_le site =
      le (summed_size (updates_at site w.received)) (summed_size (updates_at site w.in_flight)) (summed_size (coming p site w.emitted w.fed)) (summed_size (flat_map (share p site) w.emitted)) (summed_size (flat_map (share_fed p site) w.fed))
      (total_by absolute (updates_at site w.received)) (total_by absolute (updates_at site w.in_flight)) (total_by absolute (coming p site w.emitted w.fed))
      (size_is (updates_at site w.received)) (size_is (updates_at site w.in_flight)) (size_is (coming p site w.emitted w.fed)) (kept.conserved site absolute)
      (summed_size-append (flat_map (share p site) w.emitted) (flat_map (share_fed p site) w.fed))
    where
      le : (a b c x y : ℕ) (i j k : ℤ) → i ≡ pos a → j ≡ pos b → k ≡ pos c → i +ℤ j ≡ k → c ≡ x + y → a ≤ x + y
      le a b c x y i j k d e f g h = omega (arith, ints)

  abbrev gave_at : ℕ → ℕ
  gave_at s = summed_size (emitted_at s w.emitted)

  abbrev came_in : ℕ → ℕ
  came_in n = summed_size (fed_to n w.fed)

  -- what all workers received at a port is no more than what its source gave, or what was fed
  received : (n port : ℕ) → (port ≡ 0) ⊎ (port < length (sources (node_of p n))) → (x : Option ℕ) → source_of p n port ≡ x → all p.workers (got n port) ≤ source_value (came_in n) gave_at x
  received n port l (Some s) e =
      let a = all-le p.workers (got n port) (λ k. summed_size (flat_map (share_from p (Some s) (arranged_by (node_of p n)) k) w.emitted)) each in
      let b = all-shared p s p.workers (arranged_by (node_of p n)) w.emitted in
      omega arith
    where
      each : (k : ℕ) → got n port k ≤ summed_size (flat_map (share_from p (Some s) (arranged_by (node_of p n)) k) w.emitted)
      each k =
          let h = received_le (place n port k) in
          let f = ap summed_size (nothing_fed p (place n port k) w.fed kept.inputs (no_source (node_of p n) port s e)) in
          let g = ap (λ z. summed_size (flat_map (share_from p z (arranged_by (node_of p n)) k) w.emitted)) e in
          omega arith
  received n port (inr l) None e = absurd (some_within (sources (node_of p n)) port l e)
  received n port (inl z) None e = subst (λ x. source_of p n x ≡ None → all p.workers (got n x) ≤ came_in n) (sym z) outside e
    where
      outside : source_of p n 0 ≡ None → all p.workers (got n 0) ≤ came_in n
      outside f =
          let a = all-le p.workers (got n 0) (λ k. summed_size (flat_map (share_fed p (place n 0 k)) w.fed)) each in
          let b = all-fed p n p.workers w.fed in
          omega arith
        where
          each : (k : ℕ) → got n 0 k ≤ summed_size (flat_map (share_fed p (place n 0 k)) w.fed)
          each k =
              let h = received_le (place n 0 k) in
              let g = ap summed_size (ap (λ z. flat_map (share_from p z (arranged_by (node_of p n)) k) w.emitted) f ∙ nothing_shared p (arranged_by (node_of p n)) k w.emitted) in
              omega arith

  -- a reduction: no list with the same sums has fewer absolute diffs than each worker's updates
  module _ (loaded : IsLoaded times o p q w) (cmp : T → T → Ordering) (own : ℕ → ℕ) (differences : AreOwn times cmp p.nodes (changes_in w) own) where
    abbrev by : ℕ → ℕ → Update T → Bool
    by n k u = eqb (route p (take (key_width p.nodes (node_of p n)) u.row)) k

    module _ (n : ℕ) (parts : (k : ℕ) → (t : T) → is_beyond times (input_frontier times p w n) t ≡ false → is_beyond times (held_at n k w.held) t ≡ false → (r : List ℤ)
        → count_of (as_of times t (emitted_by n k w.emitted)) r ≡ cond (eqb (route p (take (key_width p.nodes (node_of p n)) r)) k) (count_of (query_at times p.nodes (changes_in w) n t) r) (pos 0)) where
      passed_both : (k : ℕ) (us : List (Update T)) → AllPassed times (held_at n k w.held) us → AllWere times n k w.observed us → AllPassed times (input_frontier times p w n ++ held_at n k w.held) us
      passed_both k [] a b = tt
      passed_both k (u ∷ us) a b = (
        list_any-append (λ f. times.below f u.time) (input_frontier times p w n) (held_at n k w.held) ∙ or_from (is_beyond times (input_frontier times p w n) u.time) (is_beyond times (held_at n k w.held) u.time) (loaded.observed n k u.time b.0) a.0,
        passed_both k us a.1 b.1,
      )

      each_passed_by : (k : ℕ) (t : T) → is_beyond times (input_frontier times p w n ++ held_at n k w.held) t ≡ false → (is_beyond times (input_frontier times p w n) t ≡ false) × (is_beyond times (held_at n k w.held) t ≡ false)
      each_passed_by k t h = or_parts (is_beyond times (input_frontier times p w n) t) (is_beyond times (held_at n k w.held) t) (sym (list_any-append (λ f. times.below f t) (input_frontier times p w n) (held_at n k w.held)) ∙ h)

      reduced : (kind : Kind) (source : ℕ) → node_of p n ≡ Reduce kind source → all p.workers (λ k. summed_size (emitted_by n k w.emitted)) ≤ own n
      reduced kind source e =
          let d = differences n source kind e in
          let a = all-le p.workers (λ k. summed_size (emitted_by n k w.emitted)) (λ k. summed_size (filter (by n k) d.0)) (λ k. one k d.0 d.1) in
          let b = all-routed p.workers (λ r. route p (take (key_width p.nodes (node_of p n)) r)) d.0 in
          let f = d.2 in
          let g = summed_size_is d.0 in
          omega arith
        where
          one : (k : ℕ) (us : List (Update T)) → AreDifferences times cmp p.nodes (changes_in w) [] n us → summed_size (emitted_by n k w.emitted) ≤ summed_size (filter (by n k) us)
          one k us d =
              let s = (loaded.rule n k).final (ap is_reduction e) in
              fewest times o (input_frontier times p w n ++ held_at n k w.held) (emitted_by n k w.emitted) (filter (by n k) us)
              s.apart (passed_both k (emitted_by n k w.emitted) (each_passed times (held_at n k w.held) (emitted_by n k w.emitted) s.held) (each_was times n k w.observed (emitted_by n k w.emitted) s.observed))
              (λ t h r. let f = each_passed_by k t h in
              parts k t f.0 f.1 r
              ∙ (ap (λ z. cond (eqb (route p (take (key_width p.nodes (node_of p n)) r)) k) z (pos 0)) (sym (d.sums t refl r))
              ∙ sym (sum_at-filter times t (λ x. eqb (route p (take (key_width p.nodes (node_of p n)) x)) k) us r)))

    abbrev ins : ℕ → ℕ
    ins i = size (changes_in w i)

    abbrev limit : ℕ → ℕ
    limit n = bound_by p.nodes own ins n

    module _ (reduced_le : (n : ℕ) (kind : Kind) (source : ℕ) → node_of p n ≡ Reduce kind source → all p.workers (λ k. summed_size (emitted_by n k w.emitted)) ≤ own n) where
      bound_step : (n : ℕ) → ((s : ℕ) → s < n → gave_at s ≤ limit s) → gave_at n ≤ limit n
      bound_step n below =
          let e = all-emitted n p.workers w.emitted kept.workers in
          let s = step (is_reduction (node_of p n)) refl in
          let z = bound_by_sources p.nodes q.plan own ins n in
          omega arith
        where
          above : ℕ → ℕ
          above port = source_value (ins n) limit (source_of p n port)

          handed_le : (port : ℕ) (x : Option ℕ) → source_of p n port ≡ x → source_value (came_in n) gave_at x ≤ source_value (ins n) limit x
          handed_le port None e = let z = summed_size_is (fed_to n w.fed) in omega arith
          handed_le port (Some s) e = below s (source_smaller p.nodes q.plan n port s e)

          port_le : (port : ℕ) → (port ≡ 0) ⊎ (port < length (sources (node_of p n))) → all p.workers (got n port) ≤ above port
          port_le port m = let a = received n port m (source_of p n port) refl in let b = handed_le port (source_of p n port) refl in omega arith

          step : (b : Bool) → is_reduction (node_of p n) ≡ b → all p.workers (λ k. summed_size (emitted_by n k w.emitted)) ≤ output_bound (node_of p n) (own n) above
          step true e =
              let found = reduction_is (node_of p n) e in
              let r = reduced_le n found.0 found.1 found.2 in
              let f = ap (λ z. output_bound z (own n) above) found.2 in
              omega arith
          step false e =
              let a = all-le p.workers (λ k. summed_size (emitted_by n k w.emitted)) (λ k. output_bound (node_of p n) 0 (λ port. got n port k)) (λ k. to_size times p w n k ((loaded.rule n k).within e)) in
              let b = output_bound-sum (all p.workers) (all-sum p.workers) (all-product p.workers) (node_of p n) (own n) (λ k port. got n port k) e in
              let c = output_bound-le (node_of p n) (own n) (λ port. all p.workers (got n port)) above port_le in
              omega arith

      -- what a node gave is within its bound, by going down the plan
      pub bound : (n : ℕ) → gave_at n ≤ limit n
      bound = by_smaller (λ n. gave_at n ≤ limit n) bound_step

      -- what one worker received at a port is within the source's bound
      pub from_source : (n port s k : ℕ) → k < p.workers → source_of p n port ≡ Some s → got n port k ≤ limit s
      from_source n port s k l e =
          let one = all-one p.workers (got n port) k l in
          let all_got = received n port (inr (some_port (sources (node_of p n)) port s e)) (Some s) e in
          let b = bound s in
          omega (arith, one, all_got, b)

      -- what a node may make of what a worker received is within the node's bound
      pub loads : (n k : ℕ) → k < p.workers → is_reduction (node_of p n) ≡ false → output_bound (node_of p n) 0 (λ port. got n port k) ≤ limit n
      loads n k l e =
          let z = bound_by_sources p.nodes q.plan own ins n in
          let same = own_free (node_of p n) 0 (own n) (λ port. got n port k) e in
          let c = output_bound-le (node_of p n) (own n) (λ port. got n port k) (λ port. source_value (ins n) limit (source_of p n port)) (λ port m. port_le port m) in
          omega (arith, z, same, c)
        where
          handed_le : (port : ℕ) (x : Option ℕ) → source_of p n port ≡ x → source_value (came_in n) gave_at x ≤ source_value (ins n) limit x
          handed_le port None e = let z = summed_size_is (fed_to n w.fed) in omega arith
          handed_le port (Some s) e = bound s

          port_le : (port : ℕ) → (port ≡ 0) ⊎ (port < length (sources (node_of p n))) → got n port k ≤ source_value (ins n) limit (source_of p n port)
          port_le port m =
              let one = all-one p.workers (got n port) k l in
              let a = received n port m (source_of p n port) refl in
              let b = handed_le port (source_of p n port) refl in
              omega (arith, one, a, b)

    -- a reduction's updates up to some step of its computation
    partly : (n : ℕ) (kind : Kind) (source : ℕ) → node_of p n ≡ Reduce kind source → (k : ℕ)
        → ((t : T) → is_beyond times (input_frontier times p w n) t ≡ false → (r : List ℤ) → count_of (node_output p n (λ port. as_of times t (received_at w n k port))) r ≡ cond (eqb (route p (take (key_width p.nodes (node_of p n)) r)) k) (count_of (query_at times p.nodes (changes_in w) n t) r) (pos 0))
        → (test : List ℤ → Bool) (us : List (Update T)) → AreOwed times p w n test k us → summed_size us ≤ own n
    partly n kind source e k due test us a =
        let d = differences n source kind e in
        let f = d.2 in
        let g = summed_size_is d.0 in
        let x = fewest_below times o us (filter (λ u. test u.row) (filter (by n k) d.0)) a.apart (agree d.0 d.1 us (each_passed times (input_frontier times p w n) us a.passed) (λ u m. m)) in
        let y = fewer (by n k) d.0 in
        let z = fewer (λ u. test u.row) (filter (by n k) d.0) in
        omega arith
      where
        fewer : (test : Update T → Bool) (vs : List (Update T)) → summed_size (filter test vs) ≤ summed_size vs
        fewer test [] = omega arith
        fewer test (v ∷ vs) = step (test v) (fewer test vs)
          where
            step : (b : Bool) → summed_size (filter test vs) ≤ summed_size vs → summed_size (cond b (v ∷ filter test vs) (filter test vs)) ≤ summed_size (v ∷ vs)
            step true h = omega arith
            step false h = omega arith

        agree : (ds : List (Update T)) → AreDifferences times cmp p.nodes (changes_in w) [] n ds → (xs : List (Update T)) → AllPassed times (input_frontier times p w n) xs → ((u : Update T) → Among u xs → Among u us) → AgreeBelow times o us (filter (λ u. test u.row) (filter (by n k) ds)) xs
        agree ds d [] b m = tt
        agree ds d (x ∷ xs) b m = (
          (λ s l r.
              a.sums x (contains_among x us (m x (inl refl))) s l r
              ∙ (count_of-filter test (node_output p n (λ port. as_of times s (received_at w n k port))) r
              ∙ (ap (λ z. cond (test r) z (pos 0)) (due s (passed_down times o (input_frontier times p w n) s x.time l b.0) r ∙ (ap (λ z. cond (eqb (route p (take (key_width p.nodes (node_of p n)) r)) k) z (pos 0)) (sym (d.sums s refl r)) ∙ sym (sum_at-filter times s (λ y. eqb (route p (take (key_width p.nodes (node_of p n)) y)) k) ds r)))
              ∙ sym (sum_at-filter times s test (filter (by n k) ds) r)))),
          agree ds d xs b.1 (λ u i. m u (inr i)),
        )

module _ {T : Type 0} (times : Times T) (o : PartialOrderLaws times) (p : Dataflow) (q : IsDataflow p) (cmp : T → T → Ordering) (h : List (Event T)) (l-h : IsLegal times p h) (n : ℕ) where
  abbrev w : State T
  w = state_after times p h

  reduced_at : (kept : IsKept times p w) (loaded : IsLoaded times o p q w) (own : ℕ → ℕ) (d : AreOwn times cmp p.nodes (changes_in w) own) (m : ℕ) (kind : Kind) (source : ℕ) → node_of p m ≡ Reduce kind source → all p.workers (λ k. summed_size (emitted_by m k w.emitted)) ≤ own m
  reduced_at kept loaded own d m kind source e =
      reduced times o p q w kept loaded cmp own d m
      (λ k t f g r. part_lem times o p q h l-h m k (ap is_linear e) t (is_passed _ f) (is_passed _ g) r
      ∙ count_of-filter (λ x. eqb (route p (take (key_width p.nodes (node_of p m)) x)) k) (query_at times p.nodes (changes_in w) m t) r)
      kind source e

  -- what a node gave is within its bound, so a number is too large only if a bound is
  pub bound_lem : KeepsBound times p w n cmp
  bound_lem limit is =
      let kept = kept_state times o p h l-h in
      let loaded = loaded_state times o p q h l-h in
      let x = bound times o p q w kept loaded cmp is.0 is.1 (reduced_at kept loaded is.0 is.1) n in
      let e = summed_size_is (emitted_at n w.emitted) in
      let f = is.2 in
      omega arith

  -- what a reduction is about to give is within its bound
  pub owed_lem : OwesWithinBound times p w n cmp
  owed_lem source kind e test k us a limit is =
      let kept = kept_state times o p h l-h in
      let loaded = loaded_state times o p q h l-h in
      let lin = ap is_linear e in
      let x = partly times o p q w kept loaded cmp is.0 is.1 n kind source e k (λ t f r. due_lem times o p q h l-h n lin k t f r) test us a in
      let y = bound_by_sources p.nodes q.plan is.0 (λ i. size (changes_in w i)) n in
      let z = ap (λ node. output_bound node (is.0 n) (λ port. source_value (size (changes_in w n)) (bound_by p.nodes is.0 (λ i. size (changes_in w i))) (source_of p n port))) e in
      let v = summed_size_is us in
      let f = is.2 in
      omega arith

  -- what a worker received is within the bound of the source
  pub takes_lem : TakesWithinBound times p w n cmp
  takes_lem port source e k l limit is =
      let kept = kept_state times o p h l-h in
      let loaded = loaded_state times o p q h l-h in
      let x = from_source times o p q w kept loaded cmp is.0 is.1 (reduced_at kept loaded is.0 is.1) n port source k l e in
      let v = summed_size_is (received_at w n k port) in
      let f = is.2 in
      omega (arith, x, v, f)

  -- what a node that is no reduction may give is within its bound
  pub loads_lem : LoadsWithinBound times p w n cmp
  loads_lem e k l limit is =
      let kept = kept_state times o p h l-h in
      let loaded = loaded_state times o p q h l-h in
      let x = loads times o p q w kept loaded cmp is.0 is.1 (reduced_at kept loaded is.0 is.1) n k l e in
      let c = output_bound-le (node_of p n) 0 (λ port. size (received_at w n k port)) (λ port. summed_size (received_at w n k port)) (λ port m. let v = summed_size_is (received_at w n k port) in omega (arith, v)) in
      let f = is.2 in
      omega (arith, x, c, f)
