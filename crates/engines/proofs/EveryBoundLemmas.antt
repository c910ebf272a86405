-- Every node of a plan has a bound. The changes of all inputs are put into one list of accepted
-- changes. From such a list each node has its differences, and their size is the own bound of a
-- reduction.
use Rattle.std.proofs.Common.{◌≡◌, ℕ, ◌<◌, cond, List, [], ◌∷◌, map, length, eqb, ⊎_elim, refl, sym, ◌∙◌, ap}
use Rattle.std.specs.Cmp.{IsTotalOrder}
use Rattle.std.specs.List.{flat_map}
use Rattle.std.specs.declared.cmp.Ordering.{Ordering}
use Rattle.std.proofs.lemmas.Bool.{cases_lt, eq-eqb, ne_eqb}
use Rattle.lattice.specs.Times.{Times}
use Rattle.lattice.specs.Order.{PartialOrderLaws, LatticeLaws, ExtendsLaws}
use Rattle.update.specs.Bags.{Alike, count_of}
use Rattle.update.specs.Updates.{as_of, size}
use Rattle.update.specs.declared.change.Update.{Update}
use Rattle.plan.specs.Ancestors.{numbers_below}
use Rattle.plan.specs.Changes.{AreDifferences, query_at}
use Rattle.plan.specs.Nodes.{node_at}
use Rattle.plan.specs.Rules.{IsPlan}
use Rattle.plan.specs.Bounds.{AreOwn, IsBound, bound_by}
use Rattle.plan.specs.declared.kind.Kind.{Kind}
use Rattle.plan.specs.declared.node.Node.{Node}
use Rattle.plan.specs.declared.node.Node.TheVariants.{Input, Reduce}
use Rattle.plan.proofs.PlanLemmas.{node_past}
use Rattle.histories.specs.declared.event.Fed.{Fed}
use Rattle.histories.specs.Histories.States.{fed_to}
use Rattle.histories.proofs.HistoryLemmas.CutLemmas.{one_below}
use Rattle.outstanding.proofs.LotLemmas.{flat_flat}
use Rattle.engines.specs.Changes.{changes_along}
use Rattle.engines.proofs.ChangesLemmas.{changes_are}
use Rattle.engines.proofs.InputLemmas.{query_at_inputs}

-- ---- the changes of all inputs, as one list of accepted changes

module _ {T : Type 0} where
  -- updates that are all fed to one input
  abbrev fed_at : ℕ → List (Update T) → List (Fed T)
  fed_at i us = map (λ u. record { input = i; update = u }) us

  -- the changes of all inputs with numbers below n
  abbrev pub fed_below : (ℕ → List (Update T)) → ℕ → List (Fed T)
  fed_below changes n = flat_map (λ i. fed_at i (changes i)) (numbers_below n)

  fed_to_own : (i : ℕ) (us : List (Update T)) → fed_to i (fed_at i us) ≡ us
  fed_to_own i [] = refl
  fed_to_own i (u ∷ us) = rw (eq-eqb i i refl) (ap (λ (vs : List (Update T)). u ∷ vs) (fed_to_own i us))

  fed_to_other : (i j : ℕ) → (j ≡ i → ⊥) → (us : List (Update T)) → fed_to i (fed_at j us) ≡ []
  fed_to_other i j apart [] = refl
  fed_to_other i j apart (u ∷ us) = rw (ne_eqb j i apart) (fed_to_other i j apart us)

  -- each input finds its own changes in that list
  pub fed_to_each : (changes : ℕ → List (Update T)) (n i : ℕ) → i < n
      → fed_to i (fed_below changes n) ≡ changes i
  fed_to_each changes n i l =
      flat_flat (λ (f : Fed T). cond (eqb f.input i) (f.update ∷ []) []) (λ j. fed_at j (changes j))
      (numbers_below n)
      ∙ (one_below n i (λ j. fed_to i (fed_at j (changes j)))
      (λ j apart. fed_to_other i j apart (changes j)) l
      ∙ fed_to_own i (changes i))

-- ---- the differences of each node, and the bounds

module _ {T : Type 0} {times : Times T} {cmp : T → T → Ordering} (o : PartialOrderLaws times) (b : LatticeLaws times) (x : ExtendsLaws times cmp) (total : IsTotalOrder cmp) (p : List Node) (plan : IsPlan p) (changes : ℕ → List (Update T)) where
  abbrev fed : List (Fed T)
  fed = fed_below changes (length p)

  -- the differences of a node, over all changes
  abbrev pub all_differences : ℕ → List (Update T)
  all_differences n =
      changes_along times cmp [] (λ t. query_at times p (λ i. fed_to i fed) n t) (map (λ f. f.update.time) fed)

  -- the query sees the same changes in that list
  same_query : (n : ℕ) → n < length p → (t : T)
      → Alike (query_at times p (λ i. fed_to i fed) n t) (query_at times p changes n t)
  same_query n l t =
      query_at_inputs p plan (λ i. as_of times t (fed_to i fed)) (λ i. as_of times t (changes i))
      (λ i k is row. ap (λ us. count_of (as_of times t us) row) (fed_to_each changes (length p) i k))
      n l

  -- each node of the plan has these differences
  pub are_differences : (n : ℕ) → n < length p → AreDifferences times cmp p changes [] n (all_differences n)
  are_differences n l =
      let d = changes_are o b x total p fed plan n l [] in
      record {
        consolidated = d.consolidated;
        passed = d.passed;
        sums = λ t h row. d.sums t h row ∙ same_query n l t row;
      }

  abbrev pub own : ℕ → ℕ
  own n = size (all_differences n)

  -- past the plan's nodes there is no reduction
  pub reduction_within : (n source : ℕ) (kind : Kind) → node_at p n ≡ Reduce kind source → n < length p
  reduction_within n source kind e = ⊎_elim (λ l. l) (λ l. absurd (no_input (sym (node_past p n l) ∙ e))) (cases_lt n (length p))
    where
      no_input : Input 0 ≡ Reduce kind source → ⊥
      no_input e = cc

  pub are_own : AreOwn times cmp p changes own
  are_own n source kind e = (all_differences n, are_differences n (reduction_within n source kind e), refl)

  -- answers bounds_exist
  pub bound_of : (n : ℕ) → (bound : ℕ) × IsBound times cmp p changes n bound
  bound_of n = (bound_by p own (λ input. size (changes input)) n, (own, are_own, refl))
