-- The headline, by going down the plan: if nothing that counts at a time is in flight or held at a
-- node or above it, then what the node gave, summed to the time, is the query.
use Rattle.std.proofs.Common.{◌≡◌, ℕ, zero, suc, ◌<◌, ◌≤◌, Bool, true, false, cond, List, [], ◌∷◌, ◌++◌, take, length, sym, refl, ap, ◌∙◌, subst, Option, Some, None, eqb, arith, ◌⊎◌, inl, inr}
use Rattle.std.specs.List.{flat_map, filter, slice_get}
use Rattle.std.proofs.lemmas.Bool.{true≢false}
use Rattle.std.proofs.lemmas.Int.{ints}
use Rattle.std.proofs.lemmas.Option.{same_Some}
use Rattle.std.proofs.Math.IntN.{ℤ, pos, ◌+ℤ◌, +ℤ_idr}
use Rattle.lattice.specs.Times.{Times}
use Rattle.lattice.specs.Frontiers.{is_beyond}
use Rattle.row.specs.Routing.{column_sum}
use Rattle.std.specs.Int.{int_rem_euclid}
use Rattle.std.proofs.Common.{unsigned_abs, negsuc}
use Rattle.update.specs.Bags.{Entry, Alike, count_of, total_by}
use Rattle.update.specs.Updates.{as_of}
use Rattle.update.specs.declared.change.Update.{Update}
use Rattle.plan.specs.Nodes.{sources, arranged_by, key_width, is_linear}
use Rattle.plan.specs.Operators.{operator_output}
use Rattle.plan.specs.Queries.{query, source_value}
use Rattle.plan.specs.declared.node.Node.{Node}
use Rattle.plan.specs.declared.node.Node.TheVariants.{Arrange}
use Rattle.plan.proofs.SortLemmas.{no_source, sourceless_linear, keyed_not_arranged, arranged_is}
use Rattle.plan.proofs.KeyLemmas.{source_arranged}
use Rattle.plan.proofs.OperatorLemmas.{given_alike, given_sum, given_nothing, given_parts}
use Rattle.plan.proofs.PlanLemmas.{has_source, source_smaller}
use Rattle.plan.proofs.StandLemmas.{above_itself, above_from_source, above_earlier}
use Rattle.plan.proofs.StepLemmas.{query_by_sources}
use Rattle.plan.proofs.UpwardLemmas.{by_smaller}
use Rattle.plan.proofs.CountLemmas.{count_of-append, count_of-filter}
use Rattle.histories.specs.Histories.Dataflows.{Dataflow, IsDataflow, node_of, source_of, node_output, upstream, route}
use Rattle.histories.specs.Histories.States.{State, place, updates_at, emitted_by, emitted_at, fed_to, held_at}
use Rattle.histories.specs.Histories.Shares.{share, share_from, share_fed}
use Rattle.histories.proofs.HistoryLemmas.ClearLemmas.{IsClear, IsArrived}
use Rattle.histories.proofs.HistoryLemmas.FlowLemmas.{sum_at, sum_at-append, value, through_is, is_passed}
use Rattle.histories.proofs.HistoryLemmas.KeptLemmas.{IsKept, coming}
use Rattle.histories.proofs.HistoryLemmas.WorkerLemmas.{over, over-same, over-one, gather, total-gather, over-emitted, shared_along, shared_by_key, shared_none, over-fed, fed_none}

-- ---- the nodes of a dataflow

-- a key is routed to a worker that exists
pub routed : (p : Dataflow) → IsDataflow p → (key : List ℤ) → route p key < p.workers
routed p q key = remainder (column_sum key) p.workers q.staffed
  where
    remainder : (z : ℤ) (n : ℕ) → 1 ≤ n → unsigned_abs (int_rem_euclid z (pos n)) < n
    remainder (pos a) n h = omega (arith, ints)
    remainder (negsuc a) n h = omega (arith, ints)

-- a list has an element at each position below its length
pub some_within : (xs : List ℕ) (i : ℕ) → i < length xs → slice_get xs i ≡ None → ⊥
some_within [] i l e = omega arith
some_within (x ∷ xs) zero l e = cc
some_within (x ∷ xs) (suc i) l e = some_within xs i (omega arith) e

-- a linear node makes of the bags of all workers together what it makes of each, added up
op-gather : (k : ℕ) (node : Node) → is_linear node ≡ true → (n : ℕ) (b : ℕ → ℕ → List Entry) (r : List ℤ) → over n (λ i. count_of (operator_output k node (b i)) r) ≡ count_of (operator_output k node (λ port. gather n (λ i. b i port))) r
op-gather k node e zero b r = sym (given_nothing k node r)
op-gather k node e (suc n) b r =
    ap (λ z. count_of (operator_output k node (b n)) r +ℤ z) (op-gather k node e n b r)
    ∙ sym (given_sum k node e (b n) (λ port. gather n (λ i. b i port)) r ∙ count_of-append (operator_output k node (b n)) (operator_output k node (λ port. gather n (λ i. b i port))) r)

-- what a node gave, summed to t, is this bag: on all workers together; and if the node is arranged,
-- on each worker the part with its keys
pub record IsClaim {T : Type 0} (times : Times T) (p : Dataflow) (w : State T) (t : T) (bag : List Entry) (n : ℕ) : Type 0 where
  pub all : (r : List ℤ) → sum_at times t (emitted_at n w.emitted) r ≡ count_of bag r
  pub parts : (c k : ℕ) → arranged_by (node_of p n) ≡ Some c → (r : List ℤ) → sum_at times t (emitted_by n k w.emitted) r ≡ cond (eqb (route p (take c r)) k) (count_of bag r) (pos 0)

module _ {T : Type 0} (times : Times T) (p : Dataflow) (q : IsDataflow p) (w : State T) (kept : IsKept times p w) (t : T) where
  abbrev ins : ℕ → List Entry
  ins i = as_of times t (fed_to i w.fed)

  abbrev recv : ℕ → ℕ → ℕ → List Entry
  recv n k port = as_of times t (updates_at (place n port k) w.received)

  abbrev bag : ℕ → List Entry
  bag n = query p.nodes ins n

  -- at a node to which everything has arrived, what was received is all that came
  came : (n port k : ℕ) (r : List ℤ) → IsArrived times w t n → count_of (recv n k port) r ≡ sum_at times t (coming p (place n port k) w.emitted w.fed) r
  came n port k r c =
      let v : Update T → ℤ = λ u. cond (times.below u.time t) (value r u) (pos 0) in
      let a = updates_at (place n port k) w.received in
      let b = updates_at (place n port k) w.in_flight in
      let none : count_of (as_of times t b) r ≡ pos 0 = ap (λ z. count_of z r) (c.flight port k) in
      through_is times r t a ∙ (sym (+ℤ_idr (total_by v a)) ∙ (ap (λ z. total_by v a +ℤ z) (sym none ∙ through_is times r t b) ∙ (kept.conserved (place n port k) v ∙ sym (through_is times r t (coming p (place n port k) w.emitted w.fed)))))

  came_from : (n port s k : ℕ) (r : List ℤ) → IsArrived times w t n → source_of p n port ≡ Some s → count_of (recv n k port) r ≡ sum_at times t (flat_map (share_from p (Some s) (arranged_by (node_of p n)) k) w.emitted) r
  came_from n port s k r c e =
      came n port k r c
      ∙ (sum_at-append times t (flat_map (share p (place n port k)) w.emitted) (flat_map (share_fed p (place n port k)) w.fed) r
      ∙ (ap (λ z. sum_at times t (flat_map (share p (place n port k)) w.emitted) r +ℤ sum_at times t z r) (fed_none times t p (place n port k) w.fed kept.inputs (no_source (node_of p n) port s e))
      ∙ (+ℤ_idr (sum_at times t (flat_map (share p (place n port k)) w.emitted) r)
      ∙ ap (λ z. sum_at times t (flat_map (share_from p z (arranged_by (node_of p n)) k) w.emitted) r) e)))

  came_along : (n port s k : ℕ) (r : List ℤ) → IsArrived times w t n → source_of p n port ≡ Some s → arranged_by (node_of p n) ≡ None → count_of (recv n k port) r ≡ sum_at times t (emitted_by s k w.emitted) r
  came_along n port s k r c e h =
      came_from n port s k r c e ∙ (ap (λ z. sum_at times t (flat_map (share_from p (Some s) z k) w.emitted) r) h ∙ ap (λ z. sum_at times t z r) (shared_along times t p s k w.emitted))

  came_by_key : (n port s k x : ℕ) (r : List ℤ) → IsArrived times w t n → source_of p n port ≡ Some s → arranged_by (node_of p n) ≡ Some x → count_of (recv n k port) r ≡ cond (eqb (route p (take x r)) k) (sum_at times t (emitted_at s w.emitted) r) (pos 0)
  came_by_key n port s k x r c e h =
      came_from n port s k r c e ∙ (ap (λ z. sum_at times t (flat_map (share_from p (Some s) z k) w.emitted) r) h ∙ shared_by_key times t p s k x w.emitted r)

  came_fed : (n k : ℕ) (r : List ℤ) → IsArrived times w t n → source_of p n 0 ≡ None → count_of (recv n k 0) r ≡ sum_at times t (flat_map (share_fed p (place n 0 k)) w.fed) r
  came_fed n k r c e =
      came n 0 k r c ∙ ap (λ z. sum_at times t (z ++ flat_map (share_fed p (place n 0 k)) w.fed) r)
      (ap (λ z. flat_map (share_from p z (arranged_by (node_of p n)) k) w.emitted) e ∙ shared_none times t p (arranged_by (node_of p n)) k w.emitted)

  module _ (n : ℕ) (arrived : IsArrived times w t n) (below : (port s : ℕ) → source_of p n port ≡ Some s → IsClaim times p w t (bag s) s) where
    abbrev key : ℕ
    key = key_width p.nodes (node_of p n)

    -- the bag of each port's source, on all workers
    abbrev source_bags : ℕ → List Entry
    source_bags port = source_value (ins n) bag (source_of p n port)

    bag_is : bag n ≡ node_output p n source_bags
    bag_is = query_by_sources p.nodes q.plan ins n

    -- at a join or reduction, what a worker owes of what it received is the part of the query with
    -- its keys
    pub due : is_linear (node_of p n) ≡ false → (k : ℕ) (r : List ℤ) → count_of (node_output p n (recv n k)) r ≡ cond (eqb (route p (take key r)) k) (count_of (bag n) r) (pos 0)
    due e k r =
        given_alike key (node_of p n) (recv n k) (λ port. filter (λ y. eqb (route p (take key y.row)) k) (source_bags port)) (λ port l. port_alike port l (source_of p n port) refl) r
        ∙ (given_parts key (node_of p n) e (λ x. eqb (route p x) k) source_bags r
        ∙ (count_of-filter (λ x. eqb (route p (take key x)) k) (node_output p n source_bags) r
        ∙ ap (λ z. cond (eqb (route p (take key r)) k) (count_of z r) (pos 0)) (sym bag_is)))
      where
        none : (port : ℕ) → (port ≡ 0) ⊎ (port < length (sources (node_of p n))) → source_of p n port ≡ None → ⊥
        none port (inl z) h = true≢false (sym (sourceless_linear (node_of p n) (subst (λ i. source_of p n i ≡ None) z h)) ∙ e)
        none port (inr l) h = some_within (sources (node_of p n)) port l h

        port_alike : (port : ℕ) → (port ≡ 0) ⊎ (port < length (sources (node_of p n))) → (x : Option ℕ) → source_of p n port ≡ x → Alike (recv n k port) (filter (λ y. eqb (route p (take key y.row)) k) (source_value (ins n) bag x))
        port_alike port l None h = absurd (none port l h)
        port_alike port l (Some s) h = λ r.
            came_along n port s k r arrived h (keyed_not_arranged (node_of p n) e)
            ∙ ((below port s h).parts key k (source_arranged p.nodes q.plan n port s (has_source p.nodes n port s h) e h) r
            ∙ sym (count_of-filter (λ x. eqb (route p (take key x)) k) (bag s) r))

    -- so is what the worker gave, if it holds nothing at or before the time, whatever the other
    -- workers hold
    pub each_keyed : is_linear (node_of p n) ≡ false → (k : ℕ) → is_beyond times (held_at n k w.held) t ≡ false → (r : List ℤ)
        → sum_at times t (emitted_by n k w.emitted) r ≡ cond (eqb (route p (take key r)) k) (count_of (bag n) r) (pos 0)
    each_keyed e k held r = kept.law n k t (is_passed _ held) r ∙ due e k r

    -- the claim for all workers, from what each worker gave
    all_from_parts : (c : ℕ) → ((k : ℕ) (r : List ℤ) → sum_at times t (emitted_by n k w.emitted) r ≡ cond (eqb (route p (take c r)) k) (count_of (bag n) r) (pos 0)) → (r : List ℤ) → sum_at times t (emitted_at n w.emitted) r ≡ count_of (bag n) r
    all_from_parts c h r =
        sym (over-emitted times t n p.workers w.emitted r kept.workers)
        ∙ (over-same p.workers (λ k. sum_at times t (emitted_by n k w.emitted) r) (λ k. cond (eqb (route p (take c r)) k) (count_of (bag n) r) (pos 0)) (λ k l. h k r)
        ∙ over-one p.workers (route p (take c r)) (count_of (bag n) r) (routed p q (take c r)))

    module _ (held : (k : ℕ) → is_beyond times (held_at n k w.held) t ≡ false) where
      keyed : is_linear (node_of p n) ≡ false → IsClaim times p w t (bag n) n
      keyed e = record { all = all_from_parts key (λ k r. each_keyed e k (held k) r); parts = λ x k s. absurd (two (keyed_not_arranged (node_of p n) e) s) }
        where
          two : {x : ℕ} → arranged_by (node_of p n) ≡ None → arranged_by (node_of p n) ≡ Some x → ⊥
          two a b = cc

      sent : (c : ℕ) → arranged_by (node_of p n) ≡ Some c → IsClaim times p w t (bag n) n
      sent c e = record { all = all_from_parts c each; parts = λ x k s r. subst (λ y. sum_at times t (emitted_by n k w.emitted) r ≡ cond (eqb (route p (take y r)) k) (count_of (bag n) r) (pos 0)) (same_Some c x (sym e ∙ s)) (each k r) }
        where
          found : (s : ℕ) × (node_of p n ≡ Arrange s c)
          found = arranged_is (node_of p n) c e

          source : source_of p n 0 ≡ Some found.0
          source = ap (λ z. slice_get (sources z) 0) found.1

          identity : (b : ℕ → List Entry) → node_output p n b ≡ b 0
          identity b = ap (λ z. operator_output key z b) found.1

          each : (k : ℕ) (r : List ℤ) → sum_at times t (emitted_by n k w.emitted) r ≡ cond (eqb (route p (take c r)) k) (count_of (bag n) r) (pos 0)
          each k r =
              kept.law n k t (is_passed _ (held k)) r
              ∙ (ap (λ z. count_of z r) (identity (recv n k))
              ∙ (came_by_key n 0 found.0 k c r arrived source e
              ∙ ap (λ z. cond (eqb (route p (take c r)) k) z (pos 0))
              ((below 0 found.0 source).all r ∙ sym (ap (λ z. count_of z r) (bag_is ∙ (identity source_bags ∙ ap (source_value (ins n) bag) source))))))

      along : is_linear (node_of p n) ≡ true → arranged_by (node_of p n) ≡ None → IsClaim times p w t (bag n) n
      along e f = record { all = all; parts = λ c k s. absurd (two s) }
        where
          two : {x : ℕ} → arranged_by (node_of p n) ≡ Some x → ⊥
          two s = cc

          from_outside : source_of p n 0 ≡ None → (r : List ℤ) → count_of (gather p.workers (λ k. recv n k 0)) r ≡ count_of (ins n) r
          from_outside h r =
              total-gather p.workers (λ k. recv n k 0) r
              ∙ (over-same p.workers (λ k. count_of (recv n k 0) r) (λ k. sum_at times t (flat_map (share_fed p (place n 0 k)) w.fed) r) (λ k l. came_fed n k r arrived h)
              ∙ over-fed times t p (routed p q) n w.fed r)

          port_alike : (port : ℕ) → (port ≡ 0) ⊎ (port < length (sources (node_of p n))) → (x : Option ℕ) → source_of p n port ≡ x → Alike (gather p.workers (λ k. recv n k port)) (source_value (ins n) bag x)
          port_alike port (inl z) None h = λ r. subst (λ x. source_of p n x ≡ None → count_of (gather p.workers (λ k. recv n k x)) r ≡ count_of (ins n) r) (sym z) (λ g. from_outside g r) h
          port_alike port (inr l) None h = absurd (some_within (sources (node_of p n)) port l h)
          port_alike port l (Some s) h = λ r.
              total-gather p.workers (λ k. recv n k port) r
              ∙ (over-same p.workers (λ k. count_of (recv n k port) r) (λ k. sum_at times t (emitted_by s k w.emitted) r) (λ k m. came_along n port s k r arrived h f)
              ∙ (over-emitted times t s p.workers w.emitted r kept.workers
              ∙ (below port s h).all r))

          all : (r : List ℤ) → sum_at times t (emitted_at n w.emitted) r ≡ count_of (bag n) r
          all r =
              sym (over-emitted times t n p.workers w.emitted r kept.workers)
              ∙ (over-same p.workers (λ k. sum_at times t (emitted_by n k w.emitted) r) (λ k. count_of (node_output p n (recv n k)) r) (λ k l. kept.law n k t (is_passed _ (held k)) r)
              ∙ (op-gather key (node_of p n) e p.workers (λ k port. recv n k port) r
              ∙ (given_alike key (node_of p n) (λ port. gather p.workers (λ k. recv n k port)) source_bags (λ port l. port_alike port l (source_of p n port) refl) r
              ∙ ap (λ z. count_of z r) (sym bag_is))))

      -- the claim for a node whose sources have theirs
      pub claim_step : (x : Bool) (y : Option ℕ) → is_linear (node_of p n) ≡ x → arranged_by (node_of p n) ≡ y → IsClaim times p w t (bag n) n
      claim_step false y e f = keyed e
      claim_step true (Some c) e f = sent c f
      claim_step true None e f = along e f

  -- the claim holds of a node if the node and all nodes above it are clear
  pub claim : (n : ℕ) → ((m : ℕ) → upstream p n m ≡ true → IsClear times w t m) → IsClaim times p w t (bag n) n
  claim = by_smaller (λ n. ((m : ℕ) → upstream p n m ≡ true → IsClear times w t m) → IsClaim times p w t (bag n) n) (λ n rest c.
      let here = c n (above_itself p.nodes q.plan n) in
      claim_step n here.arrived (λ port s e. rest s (source_smaller p.nodes q.plan n port s e) (λ m a. c m (above_from_source p.nodes q.plan m n port s e a)))
      here.held (is_linear (node_of p n)) (arranged_by (node_of p n)) refl refl)

  module _ (n : ℕ) (arrived : IsArrived times w t n) (others : (m : ℕ) → upstream p n m ≡ true → m < n → IsClear times w t m) where
    sources_claim : (port s : ℕ) → source_of p n port ≡ Some s → IsClaim times p w t (bag s) s
    sources_claim port s e =
        let smaller = source_smaller p.nodes q.plan n port s e in
        claim s (λ m a. let le = above_earlier p.nodes q.plan m s a in others m (above_from_source p.nodes q.plan m n port s e a) (omega arith))

    -- at a join or reduction, what a worker gave is its part of the query, if the input frontier
    -- and what the worker holds there have passed the time
    pub part_claim : is_linear (node_of p n) ≡ false → (k : ℕ) → is_beyond times (held_at n k w.held) t ≡ false → (r : List ℤ) → sum_at times t (emitted_by n k w.emitted) r ≡ cond (eqb (route p (take (key_width p.nodes (node_of p n)) r)) k) (count_of (bag n) r) (pos 0)
    part_claim e k held r = each_keyed n arrived sources_claim e k held r

    -- at a join or reduction, what a worker owes is its part of the query, if the input frontier
    -- has passed the time
    pub due_claim : is_linear (node_of p n) ≡ false → (k : ℕ) (r : List ℤ) → count_of (node_output p n (recv n k)) r ≡ cond (eqb (route p (take (key_width p.nodes (node_of p n)) r)) k) (count_of (bag n) r) (pos 0)
    due_claim e k r = due n arrived sources_claim e k r
