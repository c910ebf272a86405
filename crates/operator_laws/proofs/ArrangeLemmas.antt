-- What each event makes of an arrange node's trace and of what waits behind it.
use Rattle.std.proofs.Common.{◌≡◌, ◌≢◌, ℕ, ◌+◌, ◌≤◌, Bool, true, false, cond, ◌&&◌, ◌||◌, not, List, [], ◌∷◌, ◌++◌, IsTrue, sym, refl, ap, ◌∙◌, subst, arith, ⊎_elim}
use Rattle.std.specs.Prelude.{ℤ, pos, ◌+ℤ◌, unsigned_abs}
use Rattle.std.specs.List.{list_all, filter, flat_map}
use Rattle.std.specs.List.Sorted.{IsStrictlySortedBy}
use Rattle.std.specs.Cmp.{IsTotalOrder}
use Rattle.std.specs.declared.cmp.Ordering.{Ordering}
use Rattle.std.specs.declared.cmp.Ordering.TheVariants.{Less}
use Rattle.std.proofs.Math.IntN.{+ℤ_idl}
use Rattle.std.proofs.lemmas.Bool.{or_cases, and_from, false_from_ne_true, false≢true}
use Rattle.std.proofs.lemmas.Int.{ints}
use Rattle.std.proofs.lemmas.List.{append-nil}
use Rattle.std.proofs.lemmas.Map.Keys.{sorted_head, sorted_tail}
use Rattle.lattice.specs.Times.{Times}
use Rattle.lattice.specs.Order.{PartialOrderLaws}
use Rattle.lattice.specs.Frontiers.{is_beyond, all_beyond}
use Rattle.lattice.proofs.FrontierLemmas.{all_more, beyond_itself}
use Rattle.antichain.proofs.Lists.{Among, all_at, all_from, all_filter, filter_has}
use Rattle.update.specs.Bags.{Alike, count_of, same_row}
use Rattle.update.specs.Updates.{as_of, total_where, total_at, size}
use Rattle.update.specs.declared.change.Update.{Update}
use Rattle.update.proofs.ConsolidatedLemmas.{summed_size, summed_size_is}
use Rattle.update.proofs.SumLemmas.{total_by-append, total_by-split, sum_where-none}
use Rattle.update.proofs.UniqueLemmas.{passes_or_none, at_each, meets, meets_row, meets_time}
use Rattle.plan.specs.Changes.{has_passed}
use Rattle.plan.specs.Edges.{numbers_where}
use Rattle.plan.specs.Nodes.{is_input, is_linear, is_reduction, key_width}
use Rattle.plan.specs.declared.node.Node.TheVariants.{Arrange}
use Rattle.linear.specs.Applied.{linear_output}
use Rattle.linear.specs.Ports.{is_port}
use Rattle.batch.specs.Batches.{by_row_then_time}
use Rattle.batch.specs.Intervals.{is_between, all_between, is_interval_of, passed_updates, open_updates}
use Rattle.batch.proofs.TieLemmas.{no_tie, own_first}
use Rattle.batch.proofs.SumsLemmas.{sums_from_totals}
use Rattle.trace.specs.Readings.{Insertion, reached}
use Rattle.histories.specs.declared.event.Bundle.{Bundle}
use Rattle.histories.specs.declared.event.Emission.{Emission}
use Rattle.histories.specs.declared.event.Event.{Event}
use Rattle.histories.specs.declared.event.Event.TheVariants.{Take, Give}
use Rattle.histories.specs.Histories.Dataflows.{Dataflow, IsDataflow, node_of, upstream}
use Rattle.histories.specs.Histories.States.{State, update_times, emitted_by}
use Rattle.histories.specs.Histories.Outstanding.{input_frontier}
use Rattle.histories.specs.Histories.NodeLaws.{received_at}
use Rattle.histories.specs.Histories.{open_entries, initial_state, give_state, next_state, IsTake, IsGive, IsAllowed}
use Rattle.histories.specs.Histories.Promises.{NeverGoesBack}
use Rattle.histories.proofs.HistoryLemmas.FlowLemmas.{is_passed, not_beyond}
use Rattle.histories.proofs.HistoryLemmas.OnwardLemmas.{input_onward, taken_later}
use Rattle.histories.proofs.HistoryLemmas.OutstandingLemmas.{open_where, beyond_input_frontier}
use Rattle.operator_laws.specs.GatheredUpdates.{is_of, IsCut, IsInHand, IsSplit, IsStamped, IsGathering, IsHeldFor}
use Rattle.operator_laws.specs.ArrangeNodes.{IsArranging, IsSealOf}
use Rattle.operator_laws.proofs.GatheredLemmas.{size_none, times_both, over_times, beyond_both, same_after, same_gathering, first_gathering, linear_piece_lem, took_gathering, emitted_is, may_give, gave_gathering, turned_beyond, turned_gathering}

-- Beyond and passed

module _ {T : Type 0} (times : Times T) (o : PartialOrderLaws times) where
  -- if a later frontier has passed what an earlier one has, then what is beyond the later is beyond
  -- the earlier
  beyond_back : (F G : List T) → NeverGoesBack times F G → (t : T) → is_beyond times G t ≡ true → is_beyond times F t ≡ true
  beyond_back F G h t b = step (is_beyond times F t) refl
    where
      step : (c : Bool) → is_beyond times F t ≡ c → c ≡ true
      step true e = refl
      step false e = absurd (false≢true (sym (not_beyond (is_beyond times G t) (h t (is_passed (is_beyond times F t) e))) ∙ b))

  -- a bundle that is taken is beyond each frontier that the node's input frontier has reached
  pub taken_beyond : (p : Dataflow) → IsDataflow p → (w : State T) (number : ℕ) (bundle : Bundle T) → IsStamped times bundle → IsTake times p w number bundle
      → (F : List T) → NeverGoesBack times F (input_frontier times p w bundle.place.node) → all_beyond times F (update_times bundle.updates) ≡ true
  taken_beyond p q w number bundle stamped take F h = all_from (is_beyond times F) (update_times bundle.updates) each
    where
      each : (t : T) → Among t (update_times bundle.updates) → is_beyond times F t ≡ true
      each t m = step (is_beyond times F t) refl
        where
          step : (c : Bool) → is_beyond times F t ≡ c → c ≡ true
          step true f = refl
          step false f =
              let late = not_beyond (is_beyond times (input_frontier times p w bundle.place.node) t) (h t (is_passed (is_beyond times F t) f)) in
              let passed = taken_later times o t p q bundle.place.node w number bundle take.waits refl late in
              absurd (false≢true (sym passed ∙ all_at (is_beyond times bundle.stamp) (update_times bundle.updates) t stamped m))

-- What a seal answers

module _ {T : Type 0} {times : Times T} {cmp : T → T → Ordering} (o : PartialOrderLaws times) (total : IsTotalOrder cmp) where
  -- in a sealed list the total at an update's row and time is that update's diff
  own_total : (us : List (Update T)) → IsStrictlySortedBy (by_row_then_time cmp) us → (u : Update T) → Among u us → total_at times u.row u.time us ≡ u.diff
  own_total [] s u m = absurd m
  own_total (x ∷ us) s u m =
      let order = by_row_then_time cmp in
      ⊎_elim
      (λ e. subst (λ (w : Update T). total_at times w.row w.time (x ∷ us) ≡ w.diff) e (own_first o total x us s))
      (λ k.
      let apart = false_from_ne_true (meets times u x) (λ h. (no_tie o total u x (meets_row o u x h) (meets_time o u x h)).1 (at_each (λ y. order x y ≡ Less) us u (sorted_head order x us s) k)) in
      let rest = own_total us (sorted_tail order x us s) u k in
      (λ i. cond (apart i) x.diff (pos 0) +ℤ rest i) ∙ +ℤ_idl u.diff)
      m

  -- each time of a sealed list is the time of an update that was sealed
  sealed_beyond : (us out : List (Update T)) → IsSealOf cmp us out → (F : List T) → list_all (λ u. is_beyond times F u.time) us ≡ true → list_all (λ u. is_beyond times F u.time) out ≡ true
  sealed_beyond us out is F h = all_from (λ u. is_beyond times F u.time) out each
    where
      each : (u : Update T) → Among u out → is_beyond times F u.time ≡ true
      each u m =
          ⊎_elim
          (λ r. ap (is_beyond times F) (sym (meets_time o u r.0 r.2)) ∙ all_at (λ v. is_beyond times F v.time) us r.0 h r.1)
          (λ none. absurd (at_each (λ v. v.diff ≢ pos 0) out u is.sealed.nonzero m
          (sym (own_total out is.sealed.ascending u m) ∙ (is.totals (λ r s. same_row r u.row && (times.below s u.time && times.below u.time s)) ∙ sum_where-none (λ (v : Update T). v.diff) (meets times u) us none))))
          (passes_or_none (meets times u) us)

size_parts : {T : Type 0} (p : Update T → Bool) (us : List (Update T)) → summed_size (filter p us) + summed_size (filter (λ u. not (p u)) us) ≡ summed_size us
size_parts p [] = refl
size_parts p (u ∷ us) = step (p u) (size_parts p us)
  where
    step : (b : Bool) → summed_size (filter p us) + summed_size (filter (λ v. not (p v)) us) ≡ summed_size us
        → summed_size (cond b (u ∷ filter p us) (filter p us)) + summed_size (cond (not b) (u ∷ filter (λ v. not (p v)) us) (filter (λ v. not (p v)) us)) ≡ unsigned_abs u.diff + summed_size us
    step true h = omega (arith, h)
    step false h = omega (arith, h)

module _ {T : Type 0} {times : Times T} {cmp : T → T → Ordering} (o : PartialOrderLaws times) (total : IsTotalOrder cmp) where
  -- the law for seals: what is sealed may be given, and the open updates wait on
  pub seal_split : (F : List T) (waiting out : List (Update T)) → IsSealOf cmp (passed_updates times F waiting) out → IsSplit times waiting out (open_updates times F waiting)
  seal_split F waiting out is = record {
    sums = sums_from_totals times (out ++ open_updates times F waiting) waiting all;
    smaller =
        let a = size_parts (λ u. is_beyond times F u.time) waiting in
        let b = summed_size_is (open_updates times F waiting) in
        let c = summed_size_is (passed_updates times F waiting) in
        let d = summed_size_is waiting in
        let e = is.smaller in
        omega (arith, a, b, c, d, e);
    out_beyond = λ G h. over_times times G out ∙ sealed_beyond o total (passed_updates times F waiting) out is G (all_filter (λ u. is_beyond times G u.time) (λ u. has_passed times F u.time) waiting (sym (over_times times G waiting) ∙ h));
    rest_beyond = λ G h. over_times times G (open_updates times F waiting) ∙ all_filter (λ u. is_beyond times G u.time) (λ u. is_beyond times F u.time) waiting (sym (over_times times G waiting) ∙ h);
  }
    where
      swap : (a b x : ℤ) → x ≡ b +ℤ a → a +ℤ b ≡ x
      swap a b x h = omega (arith, ints)

      all : (test : List ℤ → T → Bool) → total_where test (out ++ open_updates times F waiting) ≡ total_where test waiting
      all test =
          let f : Update T → ℤ = λ u. cond (test u.row u.time) u.diff (pos 0) in
          total_by-append f out (open_updates times F waiting)
          ∙ (ap (λ z. z +ℤ total_where test (open_updates times F waiting)) (is.totals test)
          ∙ swap (total_where test (passed_updates times F waiting)) (total_where test (open_updates times F waiting)) (total_where test waiting) (total_by-split f (λ u. is_beyond times F u.time) waiting))

  -- the open updates are beyond the frontier; what is held for them then is too
  pub open_beyond : (F : List T) (waiting : List (Update T)) → all_beyond times F (update_times (open_updates times F waiting)) ≡ true
  open_beyond F waiting = over_times times F (open_updates times F waiting) ∙ all_from (λ u. is_beyond times F u.time) (open_updates times F waiting) (λ u m. (filter_has (λ v. is_beyond times F v.time) waiting u m).1)

-- An arrangement

module _ {T : Type 0} (times : Times T) (o : PartialOrderLaws times) (p : Dataflow) where
  -- at first each input stands at the least time
  pub beyond_first : (t : T) (there : ℕ → Bool) (inputs : List ℕ) → is_beyond times (open_where there (flat_map (λ i. open_entries i (times.least ∷ [])) inputs)) t ≡ true → times.below times.least t ≡ true
  beyond_first t there [] h = absurd (false≢true h)
  beyond_first t there (i ∷ inputs) h = step (there i) h (beyond_first t there inputs)
    where
      others : List T
      others = open_where there (flat_map (λ i. open_entries i (times.least ∷ [])) inputs)

      step : (b : Bool) → is_beyond times (cond b (times.least ∷ []) [] ++ others) t ≡ true → (is_beyond times others t ≡ true → times.below times.least t ≡ true) → times.below times.least t ≡ true
      step true h rest = ⊎_elim (λ e. e) rest (or_cases (times.below times.least t) (is_beyond times others t) h)
      step false h rest = rest h

  -- before the first event an input frontier has passed what the least time has
  pub first_passed : (n : ℕ) → NeverGoesBack times (times.least ∷ []) (input_frontier times p (initial_state times p) n)
  first_passed n t h = is_passed _ (beyond_input_frontier p (initial_state times p) n times o t ∙ false_from_ne_true _ (λ b. never (beyond_first t (upstream p n) (numbers_where is_input p.nodes) b)))
    where
      never : times.below times.least t ≡ true → ⊥
      never e = false≢true (sym (ap (λ b. not (b || false)) e) ∙ h)

  -- the law for the state before the first event
  pub first_arranging : (n k source key : ℕ) → node_of p n ≡ Arrange source key → IsArranging times p (initial_state times p) n k (times.least ∷ []) [] []
  first_arranging n k source key e = record {
    source = source;
    key = key;
    node = e;
    gathering = first_gathering times p n k (ap is_reduction e);
    emitted = refl;
    later = refl;
    passed = first_passed n;
  }

  -- the law for the order of what waits
  pub turned_arranging : (w : State T) (n k : ℕ) (start : List T) (inserted : List (Insertion T)) (us vs : List (Update T)) → IsArranging times p w n k start inserted (us ++ vs) → IsArranging times p w n k start inserted (vs ++ us)
  turned_arranging w n k start inserted us vs a = record {
    source = a.source;
    key = a.key;
    node = a.node;
    gathering = turned_gathering times p w n k us vs a.gathering;
    emitted = a.emitted;
    later = turned_beyond times p w n k us vs (reached start inserted) a.later;
    passed = a.passed;
  }

  module _ (q : IsDataflow p) where
    -- what an input frontier has passed it has passed after each event
    pub stays_passed : (w : State T) (e : Event T) → IsAllowed times p w e → (n : ℕ) (F : List T) → NeverGoesBack times F (input_frontier times p w n) → NeverGoesBack times F (input_frontier times p (next_state times p w e) n)
    stays_passed w e allowed n F h t x = is_passed _ (input_onward times o t p q n w e allowed (not_beyond _ (h t x)))

    -- the law for events elsewhere
    pub same_arranging : (w : State T) (n k : ℕ) (start : List T) (inserted : List (Insertion T)) (waiting : List (Update T)) → IsArranging times p w n k start inserted waiting
        → (e : Event T) → IsAllowed times p w e → is_of n k e ≡ false → IsArranging times p (next_state times p w e) n k start inserted waiting
    same_arranging w n k start inserted waiting a e allowed other =
        let s = same_after times p w n k e allowed other in
        record {
          source = a.source;
          key = a.key;
          node = a.node;
          gathering = same_gathering times p w (next_state times p w e) n k waiting s a.gathering;
          emitted = s.emitted ∙ a.emitted;
          later = a.later;
          passed = stays_passed w e allowed n (reached start inserted) a.passed;
        }

    -- the law for takes
    pub took_arranging : (w : State T) (number : ℕ) (bundle : Bundle T) (start : List T) (inserted : List (Insertion T)) (waiting : List (Update T))
        → IsArranging times p w bundle.place.node bundle.place.worker start inserted waiting → IsTrue (is_port (node_of p bundle.place.node) bundle.place.port) → IsStamped times bundle → IsTake times p w number bundle
        → IsArranging times p (next_state times p w (Take number bundle)) bundle.place.node bundle.place.worker start inserted (bundle.updates ++ waiting)
    took_arranging w number bundle start inserted waiting a port stamped take =
        let n = bundle.place.node in
        let us = bundle.updates in
        let F = reached start inserted in
        let out : linear_output (node_of p n) us ≡ us = ap (λ node. linear_output node us) a.node in
        let piece = linear_piece_lem times (key_width p.nodes (node_of p n)) (node_of p n) (ap is_linear a.node) bundle.place.port port (received_at w n bundle.place.worker) us in
        record {
          source = a.source;
          key = a.key;
          node = a.node;
          gathering = subst (λ vs. IsGathering times p (next_state times p w (Take number bundle)) n bundle.place.worker (vs ++ waiting)) out (took_gathering times o p w number bundle (linear_output (node_of p n) us) waiting stamped a.gathering piece);
          emitted = a.emitted;
          later = ap (all_beyond times F) (times_both us waiting) ∙ beyond_both times F (update_times us) (update_times waiting) (taken_beyond times o p q w number bundle stamped take F a.passed) a.later;
          passed = stays_passed w (Take number bundle) take n F a.passed;
        }

    module _ (w : State T) (g : Emission T) (sent : List (Bundle T)) (start : List T) (inserted : List (Insertion T)) (waiting rest : List (Update T)) (held : List T)
        (a : IsArranging times p w g.node g.worker start inserted waiting) (hand : IsInHand p w g.node g.worker) (split : IsSplit times waiting g.updates rest) (is_held : IsHeldFor times held (update_times rest)) (cut : IsCut times p g sent) where
      -- shows that the give is allowed
      pub may_insert : IsGive times p w g held sent
      may_insert = may_give times o p w g waiting rest held sent a.gathering split is_held hand cut

      abbrev v : State T
      v = give_state times p w g held sent

      -- the law for gives that are inserted
      pub gave_arranging : (upper : List T) → NeverGoesBack times upper (input_frontier times p w g.node) → all_beyond times upper (update_times rest) ≡ true
          → IsArranging times p v g.node g.worker start (record { upper = upper; updates = g.updates } ∷ inserted) rest
      gave_arranging upper h beyond = record {
        source = a.source;
        key = a.key;
        node = a.node;
        gathering = gave_gathering times o p w g waiting rest held sent a.gathering split is_held;
        emitted = emitted_is times p w g held sent ∙ ap (λ us. g.updates ++ us) a.emitted;
        later = beyond;
        passed = stays_passed w (Give g held sent) may_insert g.node upper h;
      }

      -- the law for gives of nothing
      pub gave_none : g.updates ≡ [] → IsArranging times p v g.node g.worker start inserted rest
      gave_none e = record {
        source = a.source;
        key = a.key;
        node = a.node;
        gathering = gave_gathering times o p w g waiting rest held sent a.gathering split is_held;
        emitted = emitted_is times p w g held sent ∙ (ap (λ us. us ++ emitted_by g.node g.worker w.emitted) e ∙ a.emitted);
        later = split.rest_beyond (reached start inserted) a.later;
        passed = stays_passed w (Give g held sent) may_insert g.node (reached start inserted) a.passed;
      }

  -- the law that what a frontier has passed may be sealed up to it
  pub interval : (w : State T) (n k : ℕ) (start : List T) (inserted : List (Insertion T)) (waiting : List (Update T)) (G : List T) → IsArranging times p w n k start inserted waiting → NeverGoesBack times (reached start inserted) G
      → is_interval_of times (reached start inserted) G (passed_updates times G waiting) ≡ true
  interval w n k start inserted waiting G a h =
      let F = reached start inserted in
      and_from (all_beyond times F G) (all_between times F G (passed_updates times G waiting))
      (all_more (is_beyond times G) (is_beyond times F) (beyond_back times o F G h) G (beyond_itself o G))
      (all_from (λ u. is_between times F G u.time) (passed_updates times G waiting) (λ u m.
      let there = filter_has (λ v. has_passed times G v.time) waiting u m in
      and_from (is_beyond times F u.time) (not (is_beyond times G u.time)) (all_at (λ v. is_beyond times F v.time) waiting u (sym (over_times times F waiting) ∙ a.later) there.0) there.1))

-- Consolidated

module _ {T : Type 0} (times : Times T) (waiting out : List (Update T)) (sums : (t : T) → Alike (as_of times t out) (as_of times t waiting)) (smaller : size out ≤ size waiting)
    (among : (test : List ℤ → T → Bool) → IsTrue (list_all (λ u. test u.row u.time) waiting) → IsTrue (list_all (λ u. test u.row u.time) out)) where
  in_time : (F : List T) → all_beyond times F (update_times waiting) ≡ true → all_beyond times F (update_times out) ≡ true
  in_time F h = over_times times F out ∙ among (λ r t. is_beyond times F t) (sym (over_times times F waiting) ∙ h)

  -- all that waits may be given consolidated
  pub all_given : IsSplit times waiting out []
  all_given = record {
    sums = λ t row. ap (λ us. count_of (as_of times t us) row) (append-nil out) ∙ sums t row;
    smaller = let e = size_none T in omega (arith, e, smaller);
    out_beyond = in_time;
    rest_beyond = λ F h. refl;
  }

  -- all that waits may be held back consolidated
  pub all_held : IsSplit times waiting [] out
  all_held = record {
    sums = sums;
    smaller = let e = size_none T in omega (arith, e, smaller);
    out_beyond = λ F h. refl;
    rest_beyond = in_time;
  }
