-- What the sort of a node says about the node: its variant, its sources and its key.
use Rattle.std.proofs.Common.{◌≡◌, ℕ, ◌≤◌, true, false, ⊎_elim, IsTrue, Some, None, length, slice_get, refl, sym, ap, ◌∙◌, arith}
use Rattle.std.proofs.lemmas.Bool.{true≢false, false≢true}
use Rattle.std.proofs.lemmas.Option.{none-some, same_Some}
use Rattle.plan.specs.Nodes.{sources, arranged_by, sort, same_sort, adds_up, is_input, is_reduction, is_linear}
use Rattle.plan.specs.declared.sort.Sort.{Sort}
use Rattle.plan.specs.declared.sort.Sort.TheVariants.{Reduction}
use Rattle.plan.specs.declared.kind.Kind.{Kind}
use Rattle.plan.specs.declared.node.Node.{Node}
use Rattle.plan.specs.declared.node.Node.TheVariants.{Input, Arrange, Reduce}
use Rattle.plan.proofs.StepLemmas.{input_or_source}

-- ---- sorts

-- a linear sort is not the sort of a reduction
adds_up_not_reduction : (s : Sort) → adds_up s ≡ true → same_sort Reduction s ≡ false
adds_up_not_reduction Reduction l = absurd (true≢false (sym l))
adds_up_not_reduction s l = refl

-- a linear node is no reduction, so facts about all nodes but reductions hold of it
pub linear_not_reduction : (node : Node) → IsTrue (is_linear node) → is_reduction node ≡ false
linear_not_reduction node = adds_up_not_reduction (sort node)

-- ---- variants

-- a node that tests as an input is an `Input`
pub input_is : (node : Node) → IsTrue (is_input node) → (width : ℕ) × (node ≡ Input width)
input_is (Input width) h = (width, refl)
input_is node h = absurd (false≢true h)

-- a node that tests as a reduction is a `Reduce`
pub reduction_is : (node : Node) → is_reduction node ≡ true → (kind : Kind) × (source : ℕ) × (node ≡ Reduce kind source)
reduction_is (Reduce kind source) e = (kind, source, refl)
reduction_is node e = absurd (false≢true e)

-- a node with a key is an `Arrange`
pub arranged_is : (node : Node) (c : ℕ) → arranged_by node ≡ Some c → (s : ℕ) × (node ≡ Arrange s c)
arranged_is (Arrange source key) c e = (source, ap (λ k. Arrange source k) (same_Some key c e))
arranged_is node c e = cc

-- a join or a reduction is no arrange node, so its rows are not sent by key
pub keyed_not_arranged : (node : Node) → is_linear node ≡ false → arranged_by node ≡ None
keyed_not_arranged (Arrange source key) h = absurd (true≢false h)
keyed_not_arranged node h = refl

-- ---- sources

-- an input has no sources, so no node sends it anything
pub input_reads_none : (node : Node) → IsTrue (is_input node) → (port : ℕ) → slice_get (sources node) port ≡ None
input_reads_none node h port = ap (λ node. slice_get (sources node) port) (input_is node h).1

-- a node with a source is no input
pub no_source : (node : Node) (port s : ℕ) → slice_get (sources node) port ≡ Some s → IsTrue (is_input node) → ⊥
no_source node port s e h = none-some s (sym (input_reads_none node h port) ∙ e)

-- a node without a source at port 0 is linear, so a join or a reduction has a source there
pub sourceless_linear : (node : Node) → slice_get (sources node) 0 ≡ None → is_linear node ≡ true
sourceless_linear node e = ⊎_elim (λ r. ap is_linear r.1) (λ r. absurd (none-some r.0 (sym e ∙ r.1))) (input_or_source node)

-- a node has at most two sources, at ports 0 and 1
pub few_sources : (node : Node) → length (sources node) ≤ 2
few_sources (Input width) = omega arith
few_sources node = omega arith
