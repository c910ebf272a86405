-- If the plain query meets a number that is too large, the bound of some node is too large. The
-- numbers are those that the oracle names: the count of a row, the product of two counts in a join,
-- the total of a key in a count, and the difference of a row at a time.
use Rattle.std.proofs.Common.{◌≡◌, ℕ, ◌<◌, List, ℤ, length, Some, IsTrue, inl, inr, refl, sym, ◌∙◌, ap, ap₂, subst, slice_get, arith}
use Rattle.std.specs.Int.{w64}
use Rattle.std.specs.Prelude.{FitsSigned, neg_ℤ, ◌+ℤ◌, ◌*ℤ◌}
use Rattle.std.specs.Cmp.{IsTotalOrder}
use Rattle.std.specs.declared.cmp.Ordering.{Ordering}
use Rattle.lattice.specs.Times.{Times}
use Rattle.lattice.specs.Order.{PartialOrderLaws, LatticeLaws, ExtendsLaws}
use Rattle.update.specs.Bags.{Alike, count_of}
use Rattle.update.specs.Updates.{as_of}
use Rattle.update.specs.declared.change.Update.{Update}
use Rattle.plan.specs.Ancestors.{reaches}
use Rattle.plan.specs.Bounds.{HasLargeBound}
use Rattle.plan.specs.Changes.{query_at}
use Rattle.plan.specs.Nodes.{node_at, sources, key_width}
use Rattle.plan.specs.Queries.{query, source_value}
use Rattle.plan.specs.Rules.{IsPlan}
use Rattle.plan.specs.declared.kind.Kind.TheVariants.{Count}
use Rattle.plan.specs.declared.node.Node.{Node}
use Rattle.plan.specs.declared.node.Node.TheVariants.{Join, Reduce}
use Rattle.plan.proofs.PlanLemmas.{source_smaller}
use Rattle.plan.proofs.StandLemmas.{above_earlier}
use Rattle.plan.proofs.StepLemmas.{query_by_sources}
use Rattle.oracle.specs.Evaluation.{HasLargeAbove, HasLargeStep, output_at, list_of, sums_at}
use Rattle.oracle.specs.Listing.{HasLargeDifference}
use Rattle.engines.proofs.BoundLemmas.{large_count, large_gap, large_number, large_product, same_number}

-- the query that was evaluated reads lists, and the bounds are those of changes with the same query
module _ {T : Type 0} {times : Times T} {cmp : T → T → Ordering} (o : PartialOrderLaws times) (b : LatticeLaws times) (x : ExtendsLaws times cmp) (total : IsTotalOrder cmp) (p : List Node) (plan : IsPlan p)
    (lists : List (List (Update T))) (changes : ℕ → List (Update T))
    (same : (n : ℕ) → n < length p → (t : T) → Alike (query_at times p (list_of p lists) n t) (query_at times p changes n t)) where
  earlier : (m : ℕ) → m < length p → (port source : ℕ) → slice_get (sources (node_at p m)) port ≡ Some source → source < length p
  earlier m l port source e = let less = source_smaller p plan m port source e in omega (arith, less, l)

  -- a step on the way to the rows of a node, by the kind of the node
  large_step : (t : T) (m : ℕ) → m < length p → (node : Node) → node_at p m ≡ node
      → HasLargeStep (key_width p node) node (λ port. source_value (sums_at times p lists t m) (query p (sums_at times p lists t)) (slice_get (sources node) port))
      → HasLargeBound times cmp p changes
  large_step t m within (Join left right) e (row, other, keys, large) =
      let at_left = same left (earlier m within 0 left (ap (λ it. slice_get (sources it) 0) e)) t row in
      let at_right = same right (earlier m within 1 right (ap (λ it. slice_get (sources it) 1) e)) t other in
      large_product o b x total p plan changes m left right within e t row other
      (λ fits. large (subst (FitsSigned w64) (sym (ap₂ (λ i j. i *ℤ j) at_left at_right)) fits))
  large_step t m within (Reduce Count source) e (key, large) =
      let before = earlier m within 0 source (ap (λ it. slice_get (sources it) 0) e) in
      let k = key_width p (Reduce Count source) in
      large_number o b x total p plan changes source before t k key
      (λ fits. large (subst (FitsSigned w64) (sym (same_number k key (query_at times p (list_of p lists) source t) (query_at times p changes source t) (same source before t))) fits))
  large_step t m within node e step = absurd step

  module _ (v : ℕ) (within : v < length p) where
    above_within : (m : ℕ) → IsTrue (reaches p m v) → m < length p
    above_within m above = let up = above_earlier p plan m v above in omega (arith, up, within)

    -- a number that is too large at the node or above it, at one time
    pub large_above : (t : T) → HasLargeAbove p (sums_at times p lists t) v → HasLargeBound times cmp p changes
    large_above t (m, above, inl (row, large)) =
        let early : m < length p = above_within m above in
        large_count o b x total p plan changes m early t (row, λ fits. large (subst (FitsSigned w64) (sym (own row ∙ same m early t row)) fits))
      where
        own : (row : List ℤ) → count_of (output_at p m (sums_at times p lists t m) (query p (sums_at times p lists t))) row ≡ count_of (query_at times p (list_of p lists) m t) row
        own row = ap (λ es. count_of es row) (sym (query_by_sources p plan (sums_at times p lists t) m))
    large_above t (m, above, inr step) = large_step t m (above_within m above) (node_at p m) refl step

    -- the same at some time that the frontier has passed, or the difference of a row there
    pub large_difference : (F : List T) → HasLargeDifference times p lists F v → HasLargeBound times cmp p changes
    large_difference F (t, passed, inl above) = large_above t above
    large_difference F (t, passed, inr (us, before, apart, (row, large))) =
        large_gap o b x total p plan changes v within t us (λ u l d row. before u l d row ∙ same v within u row) apart
        (row, λ fits. large (subst (FitsSigned w64) (sym (ap (λ i. i +ℤ neg_ℤ (count_of (as_of times t us) row)) (same v within t row))) fits))
