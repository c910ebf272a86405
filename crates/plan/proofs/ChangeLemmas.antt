-- The differences of a node are determined by their sums, and its bound by the differences of the
-- reductions.
use Rattle.std.proofs.Common.{◌≡◌, ℕ, zero, suc, Bool, cond, List, [], ◌∷◌, IsTrue, refl, sym, ◌∙◌, ap}
use Rattle.std.specs.Prelude.{slice_get}
use Rattle.std.specs.List.{filter, list_all}
use Rattle.std.specs.Cmp.{IsTotalOrder}
use Rattle.std.specs.declared.cmp.Ordering.{Ordering}
use Rattle.std.proofs.lemmas.Bool.{and_parts}
use Rattle.lattice.specs.Times.{Times}
use Rattle.lattice.specs.Order.{PartialOrderLaws}
use Rattle.lattice.specs.Frontiers.{is_beyond, all_beyond}
use Rattle.lattice.proofs.FrontierLemmas.{beyond_up, beyond_later, beyond_itself}
use Rattle.antichain.proofs.AntichainLemmas.{not_true, not_from}
use Rattle.update.specs.Bags.{Alike}
use Rattle.update.specs.Updates.{as_of, size}
use Rattle.update.specs.declared.change.Update.{Update}
use Rattle.update.proofs.UniqueLemmas.{same_totals, same_updates}
use Rattle.plan.specs.Nodes.{node_at, sources}
use Rattle.plan.specs.Upward.{found_within}
use Rattle.plan.specs.Queries.{source_value}
use Rattle.plan.specs.Changes.{AreDifferences, has_passed}
use Rattle.plan.specs.Bounds.{output_bound, AreOwn, IsBound}
use Rattle.plan.specs.declared.kind.Kind.{Kind}
use Rattle.plan.specs.declared.node.Node.{Node}
use Rattle.plan.specs.declared.node.Node.TheVariants.{Reduce}
use Rattle.plan.proofs.BoundLemmas.{own_same_bound}

-- if all elements pass a test, then a filter keeps the whole list
filter_all : {X : Type 0} (p : X → Bool) (xs : List X) → IsTrue (list_all p xs) → xs ≡ filter p xs
filter_all p [] a = refl
filter_all p (x ∷ xs) a =
    let parts = and_parts (p x) (list_all p xs) a in
    λ i. cond (sym parts.0 i) (x ∷ filter_all p xs parts.1 i) (filter p xs)

module _ {T : Type 0} {times : Times T} (o : PartialOrderLaws times) where
  -- a frontier that has passed a time has passed all earlier times
  passed_down : (frontier : List T) (s t : T) → IsTrue (times.below s t) → IsTrue (has_passed times frontier t) → IsTrue (has_passed times frontier s)
  passed_down frontier s t h p =
      not_from (is_beyond times frontier s) (λ b. not_true (is_beyond times frontier t) p (beyond_up o frontier s t b h))

  -- a later frontier has passed all times that an earlier one has
  passed_later : (earlier later : List T) (t : T) → IsTrue (all_beyond times earlier later) → IsTrue (has_passed times earlier t) → IsTrue (has_passed times later t)
  passed_later earlier later t a p =
      not_from (is_beyond times later t) (λ b. not_true (is_beyond times earlier t) p (beyond_later o earlier later t a b))

  module _ {cmp : T → T → Ordering} (total : IsTotalOrder cmp) (p : List Node) (changes : ℕ → List (Update T)) where
    -- when the frontier moves on, the differences at times that it had already passed stay the same
    pub differences_go_on : (earlier later : List T) (n : ℕ) (us vs : List (Update T)) → IsTrue (all_beyond times earlier later) → AreDifferences times cmp p changes earlier n us → AreDifferences times cmp p changes later n vs → us ≡ filter (λ u. has_passed times earlier u.time) vs
    differences_go_on earlier later n us vs a d e =
        filter_all (λ u. has_passed times earlier u.time) us d.passed
        ∙ same_updates o total (has_passed times earlier) us vs (same_totals o (has_passed times earlier) us vs (passed_down earlier) alike) d.consolidated e.consolidated
      where
        alike : (t : T) → IsTrue (has_passed times earlier t) → Alike (as_of times t us) (as_of times t vs)
        alike t h row = d.sums t h row ∙ sym (e.sums t (passed_later earlier later t a h) row)

    -- a node has only one list of differences for a frontier
    pub differences_one : (frontier : List T) (n : ℕ) (us vs : List (Update T)) → AreDifferences times cmp p changes frontier n us → AreDifferences times cmp p changes frontier n vs → us ≡ vs
    differences_one frontier n us vs d e =
        differences_go_on frontier frontier n us vs (beyond_itself o frontier) d e
        ∙ sym (filter_all (λ u. has_passed times frontier u.time) vs e.passed)

    -- a reduction has only one own bound
    own_same : (v w : ℕ → ℕ) → AreOwn times cmp p changes v → AreOwn times cmp p changes w → (n source : ℕ) (kind : Kind) → node_at p n ≡ Reduce kind source → v n ≡ w n
    own_same v w a b n source kind e =
        let x = a n source kind e in
        let y = b n source kind e in
        x.2 ∙ ap size (differences_one [] n x.0 y.0 x.1 y.1) ∙ sym y.2

module _ (p : List Node) (inputs : ℕ → ℕ) where
  -- the step of the recursion that finds bounds
  abbrev loaded : (ℕ → ℕ) → ℕ → Node → (ℕ → ℕ) → ℕ
  loaded own m node bounds_at = output_bound node (own m) (λ port. source_value (inputs m) bounds_at (slice_get (sources node) port))

  -- bounds are equal if the own bounds of all reductions are
  bounds_within : (v w : ℕ → ℕ) → ((n source : ℕ) (kind : Kind) → node_at p n ≡ Reduce kind source → v n ≡ w n) → (d n : ℕ) → found_within 0 (loaded v) p d n ≡ found_within 0 (loaded w) p d n
  bounds_within v w h zero n = refl
  bounds_within v w h (suc d) n =
      own_same_bound (node_at p n) (v n) (w n) (λ port. source_value (inputs n) (found_within 0 (loaded v) p d) (slice_get (sources (node_at p n)) port)) (h n)
      ∙ (λ i. loaded w n (node_at p n) (λ m. bounds_within v w h d m i))

module _ {T : Type 0} {times : Times T} {cmp : T → T → Ordering} (o : PartialOrderLaws times) (total : IsTotalOrder cmp) where
  -- a node has at most one bound
  pub one_bound : (p : List Node) (changes : ℕ → List (Update T)) (n v w : ℕ) → IsBound times cmp p changes n v → IsBound times cmp p changes n w → v ≡ w
  unfolding Rattle.plan.specs.Bounds.bound_by
  one_bound p changes n v w a b =
      a.2
      ∙ bounds_within p (λ input. size (changes input)) a.0 b.0 (own_same o total p changes a.0 b.0 a.1 b.1) (suc n) n
      ∙ sym b.2
