-- The output of a linear node for the lists at all its ports: one list, no larger than the node's
-- bound, whose sum is the operator's output for the sums.
use Rattle.std.proofs.Common.{ℕ, ◌≤◌, List, ◌++◌, IsTrue, refl, ap, sym, arith}
use Rattle.std.proofs.lemmas.Bool.{true≢false}
use Rattle.update.specs.Bags.{Alike, count_of}
use Rattle.update.specs.Updates.{as_of}
use Rattle.update.specs.declared.change.Update.{Update}
use Rattle.update.proofs.ConsolidatedLemmas.{summed_size, summed_size-append}
use Rattle.plan.specs.Nodes.{is_linear}
use Rattle.plan.specs.Bounds.{output_bound}
use Rattle.plan.specs.Operators.{operator_output}
use Rattle.plan.specs.declared.node.Node.{Node}
use Rattle.plan.specs.declared.node.Node.TheVariants.{Concat, Join, Reduce}
use Rattle.linear.specs.Applied.{linear_output}
use Rattle.linear.proofs.SizeLemmas.{summed_size_applied}
use Rattle.linear.proofs.SumLemmas.{as_of-append, applied_sums}
use Rattle.lattice.specs.Times.{Times}

module _ {T : Type 0} where
  -- the output for all ports; only a concat has two lists, and joins and reductions are not meant
  abbrev pub whole_output : Node → (ℕ → List (Update T)) → List (Update T)
  whole_output (Concat left right) lists = lists 0 ++ lists 1
  whole_output node lists = linear_output node (lists 0)

  -- the size of this output is at most the bound of the node; this bounds the differences of a view
  pub whole_output-le : (node : Node) → IsTrue (is_linear node) → (own : ℕ) (lists : ℕ → List (Update T)) → summed_size (whole_output node lists) ≤ output_bound node own (λ port. summed_size (lists port))
  whole_output-le (Concat left right) l own lists = let both = summed_size-append (lists 0) (lists 1) in omega (arith, both)
  whole_output-le (Join left right) l own lists = absurd (true≢false (sym l))
  whole_output-le (Reduce kind source) l own lists = absurd (true≢false (sym l))
  whole_output-le node l own lists = summed_size_applied node (lists 0)

  module _ (times : Times T) (t : T) where
    -- if the lists sum to bags, then the output sums to the operator's output for the bags
    pub whole_output_sums : (k : ℕ) (node : Node) → IsTrue (is_linear node) → (lists : ℕ → List (Update T)) → Alike (as_of times t (whole_output node lists)) (operator_output k node (λ port. as_of times t (lists port)))
    whole_output_sums k (Concat left right) l lists row = ap (λ es. count_of es row) (as_of-append times t (lists 0) (lists 1))
    whole_output_sums k (Join left right) l lists row = absurd (true≢false (sym l))
    whole_output_sums k (Reduce kind source) l lists row = absurd (true≢false (sym l))
    whole_output_sums k node l lists row = applied_sums times t k node l 0 refl (lists 0) row
