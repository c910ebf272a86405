-- At every time, the sum of a linear node's output is the operator's output for the sum of its
-- input.
use Rattle.std.proofs.Common.{◌≡◌, ℕ, zero, suc, Bool, true, false, cond, ◌||◌, ◌&&◌, eqb, nat_lt, List, [], ◌∷◌, ◌++◌, map, IsTrue, refl, ap, sym, ◌∙◌, arith}
use Rattle.std.specs.Prelude.{◌+ℤ◌}
use Rattle.std.specs.List.{filter}
use Rattle.std.proofs.Math.Bool.{and_comm}
use Rattle.std.proofs.lemmas.Bool.{true≢false}
use Rattle.std.proofs.lemmas.Bool.Decides.{nat_tests}
use Rattle.std.proofs.lemmas.List.{map-append, append-nil}
use Rattle.std.proofs.lemmas.List.Elements.{filter-append}
use Rattle.row.specs.Filters.{passes}
use Rattle.row.specs.declared.projection.Item.{Item}
use Rattle.row.specs.declared.test.Test.{Test}
use Rattle.update.specs.Bags.{Entry, Alike, count_of}
use Rattle.update.specs.Updates.{entry, as_of}
use Rattle.update.specs.declared.change.Update.{Update}
use Rattle.plan.specs.Operators.{mapped_entry, negated_entry, operator_output}
use Rattle.plan.specs.Nodes.{is_linear}
use Rattle.plan.specs.declared.node.Node.{Node}
use Rattle.plan.specs.declared.node.Node.TheVariants.{Input, Map, Filter, Concat, Negate, Join, Reduce}
use Rattle.plan.proofs.OperatorLemmas.{given_sum}
use Rattle.plan.proofs.CountLemmas.{count_of-append}
use Rattle.linear.specs.Applied.{mapped_update, negated_update, linear_output}
use Rattle.linear.specs.Ports.{is_port, at_port, with_more_at}
use Rattle.lattice.specs.Times.{Times}

module _ {X : Type 0} where
  filter-filter : (p q : X → Bool) (xs : List X) → filter p (filter q xs) ≡ filter (λ x. q x && p x) xs
  filter-filter p q [] = refl
  filter-filter p q (x ∷ xs) =
      let h = filter-filter p q xs in
      elim (q x) as (λ b. filter p (cond b (x ∷ filter q xs) (filter q xs)) ≡ cond (b && p x) (x ∷ filter (λ y. q y && p y) xs) (filter (λ y. q y && p y) xs)) [
        | true ↦ ap (λ l. cond (p x) (x ∷ l) l) h
        | false ↦ h
      ]

  filter_swap : (p q : X → Bool) (xs : List X) → filter p (filter q xs) ≡ filter q (filter p xs)
  filter_swap p q xs =
      filter-filter p q xs
      ∙ (λ i. filter (λ x. and_comm (q x) (p x) i) xs)
      ∙ sym (filter-filter q p xs)

  map-filter : {Y : Type 0} (f : X → Y) (p : Y → Bool) (xs : List X) → map f (filter (λ x. p (f x)) xs) ≡ filter p (map f xs)
  map-filter f p [] = refl
  map-filter f p (x ∷ xs) =
      let h = map-filter f p xs in
      elim (p (f x)) as (λ b. map f (cond b (x ∷ filter (λ y. p (f y)) xs) (filter (λ y. p (f y)) xs)) ≡ cond b (f x ∷ filter p (map f xs)) (filter p (map f xs))) [
        | true ↦ ap (λ l. f x ∷ l) h
        | false ↦ h
      ]

-- the output for two pieces together is the output for each, together
pub linear_output-append : {T : Type 0} (node : Node) (us vs : List (Update T)) → linear_output node (us ++ vs) ≡ linear_output node us ++ linear_output node vs
linear_output-append (Map source items) us vs = map-append (mapped_update items) us vs
linear_output-append (Filter source test) us vs = filter-append (λ u. passes test u.row) us vs
linear_output-append (Negate source) us vs = map-append negated_update us vs
linear_output-append node us vs = refl

-- a node with at most one source has only port 0
one_port : (port : ℕ) → IsTrue (eqb port 0 || nat_lt port 1) → port ≡ 0
one_port port h = grind (arith, nat_tests)

no_port : (port : ℕ) → IsTrue (eqb port 0 || nat_lt port 0) → port ≡ 0
no_port port h = grind (arith, nat_tests)

-- two pieces at one port, added port by port, are both pieces at that port
both_ports : (port : ℕ) → IsTrue (eqb port 0 || nat_lt port 2) → (es : List Entry) → Alike es (at_port port es 0 ++ at_port port es 1)
both_ports zero h es row = ap (λ l. count_of l row) (sym (append-nil es))
both_ports (suc zero) h es row = refl
both_ports (suc (suc port)) h es row = absurd (grind (arith, nat_tests))

module _ {T : Type 0} (times : Times T) (t : T) where
  -- the sum of two lists at a time is the sum of each, together
  pub as_of-append : (us vs : List (Update T)) → as_of times t (us ++ vs) ≡ as_of times t us ++ as_of times t vs
  as_of-append us vs =
      ap (λ l. map entry l) (filter-append (λ u. times.below u.time t) us vs)
      ∙ map-append entry (filter (λ u. times.below u.time t) us) (filter (λ u. times.below u.time t) vs)

  as_of-mapped_entry : (items : List Item) (us : List (Update T)) → as_of times t (map (mapped_update items) us) ≡ map (mapped_entry items) (as_of times t us)
  as_of-mapped_entry items [] = refl
  as_of-mapped_entry items (u ∷ us) =
      let h = as_of-mapped_entry items us in
      elim (times.below u.time t) as (λ b. map entry (cond b (mapped_update items u ∷ filter (λ v. times.below v.time t) (map (mapped_update items) us)) (filter (λ v. times.below v.time t) (map (mapped_update items) us)))
      ≡ map (mapped_entry items) (map entry (cond b (u ∷ filter (λ v. times.below v.time t) us) (filter (λ v. times.below v.time t) us)))) [
        | true ↦ ap (λ l. mapped_entry items (entry u) ∷ l) h
        | false ↦ h
      ]

  as_of-negated_entry : (us : List (Update T)) → as_of times t (map negated_update us) ≡ map negated_entry (as_of times t us)
  as_of-negated_entry [] = refl
  as_of-negated_entry (u ∷ us) =
      let h = as_of-negated_entry us in
      elim (times.below u.time t) as (λ b. map entry (cond b (negated_update u ∷ filter (λ v. times.below v.time t) (map negated_update us)) (filter (λ v. times.below v.time t) (map negated_update us)))
      ≡ map negated_entry (map entry (cond b (u ∷ filter (λ v. times.below v.time t) us) (filter (λ v. times.below v.time t) us)))) [
        | true ↦ ap (λ l. negated_entry (entry u) ∷ l) h
        | false ↦ h
      ]

  as_of-passing : (test : Test) (us : List (Update T)) → as_of times t (filter (λ u. passes test u.row) us) ≡ filter (λ e. passes test e.row) (as_of times t us)
  as_of-passing test us =
      ap (λ l. map entry l) (filter_swap (λ u. times.below u.time t) (λ u. passes test u.row) us)
      ∙ map-filter entry (λ e. passes test e.row) (filter (λ u. times.below u.time t) us)

  -- the sum of the output for one piece is the operator's output for the sum of the piece
  pub applied_sums : (k : ℕ) (node : Node) → IsTrue (is_linear node) → (port : ℕ) → IsTrue (is_port node port) → (us : List (Update T)) → Alike (as_of times t (linear_output node us)) (operator_output k node (at_port port (as_of times t us)))
  applied_sums k (Input width) l port h us row = rw (no_port port h) refl
  applied_sums k (Map source items) l port h us row = rw (one_port port h) (ap (λ es. count_of es row) (as_of-mapped_entry items us))
  applied_sums k (Filter source test) l port h us row = rw (one_port port h) (ap (λ es. count_of es row) (as_of-passing test us))
  applied_sums k (Concat left right) l port h us row = both_ports port h (as_of times t us) row
  applied_sums k (Negate source) l port h us row = rw (one_port port h) (ap (λ es. count_of es row) (as_of-negated_entry us))
  applied_sums k (Join left right) l port h us row = absurd (true≢false (sym l))
  applied_sums k (Reduce kind source) l port h us row = absurd (true≢false (sym l))
  applied_sums k node l port h us row = rw (one_port port h) refl

  -- one more piece at a port, in the sums of all that was received
  as_of-more : (port : ℕ) (us : List (Update T)) (received : ℕ → List (Update T)) (p : ℕ) → as_of times t (with_more_at port us received p) ≡ at_port port (as_of times t us) p ++ as_of times t (received p)
  as_of-more port us received p =
      elim (eqb p port) as (λ b. as_of times t (cond b (us ++ received p) (received p)) ≡ cond b (as_of times t us) [] ++ as_of times t (received p)) [
        | true ↦ as_of-append us (received p)
        | false ↦ refl
      ]

  -- if the emitted updates sum to the operator's output for all that was received, then one more
  -- piece keeps it so
  pub applied_goes_on : (k : ℕ) (node : Node) → IsTrue (is_linear node) → (port : ℕ) → IsTrue (is_port node port)
      → (received : ℕ → List (Update T)) (emitted us : List (Update T))
      → Alike (as_of times t emitted) (operator_output k node (λ p. as_of times t (received p)))
      → Alike (as_of times t (linear_output node us ++ emitted)) (operator_output k node (λ p. as_of times t (with_more_at port us received p)))
  applied_goes_on k node l port h received emitted us before row =
      ap (λ es. count_of es row) (as_of-append (linear_output node us) emitted)
      ∙ (count_of-append (as_of times t (linear_output node us)) (as_of times t emitted) row
      ∙ ((λ i. applied_sums k node l port h us row i +ℤ before row i)
      ∙ (sym (count_of-append (operator_output k node (at_port port (as_of times t us))) (operator_output k node (λ p. as_of times t (received p))) row)
      ∙ (sym (given_sum k node l (at_port port (as_of times t us)) (λ p. as_of times t (received p)) row)
      ∙ ap (λ bags. count_of (operator_output k node bags) row) (sym (λ i p. as_of-more port us received p i))))))
