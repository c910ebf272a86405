-- The rules of plans: which nodes a plan may have, and why a node is refused.
use Rattle.std.specs.Prelude.{◌≡◌, ℕ, ◌<◌, Bool, not, ◌&&◌, List, [], ◌∷◌, Option, Some, None, length, nat_lt, nat_le, eqb, is_some, take, if◌then◌else◌}
use Rattle.std.specs.List.{list_all}
use Rattle.row.specs.Projection.{are_within}
use Rattle.row.specs.Filters.{is_test_within}
use Rattle.update.specs.declared.refusal.Refusal.{Refusal}
use Rattle.update.specs.declared.refusal.Refusal.TheVariants.{TooManyNodes, UnknownName, BadColumn, WidthMismatch, NotArranged, KeyMismatch, BadWidth, BadKey}
use Rattle.plan.specs.Nodes.{node_at, sources, arranged_by, key_of, key_width, is_output}
use Rattle.plan.specs.Widths.{width_of, width_from}
use Rattle.plan.specs.declared.node.Node.{Node}
use Rattle.plan.specs.declared.node.Node.TheVariants.{Input, Map, Filter, Concat, Negate, Arrange, Join, Reduce, Output}

-- the node exists and is no view, so another node may read it
abbrev pub is_readable : List Node → ℕ → Bool
is_readable p n = nat_lt n (length p) && not (is_output (node_at p n))

-- the node is an arrange node
abbrev pub is_arranged : List Node → ℕ → Bool
is_arranged p n = is_some (arranged_by (node_at p n))

-- a row can have this many columns: 1 to 8
abbrev pub is_width : ℕ → Bool
is_width width = nat_le 1 width && nat_le width 8

-- the faults of a node whose sources exist, each with its refusal, in the order of testing; of the
-- reductions only a count can be too wide
abbrev pub node_faults : List Node → Node → List (Bool × Refusal)
node_faults p (Input width) = (not (is_width width), BadWidth) ∷ []
node_faults p (Map source items) =
    (not (is_width (length items)), BadWidth)
    ∷ (not (are_within items (width_of p source)), BadColumn) ∷ []
node_faults p (Filter source test) = (not (is_test_within test (width_of p source)), BadColumn) ∷ []
node_faults p (Concat left right) = (not (eqb (width_of p left) (width_of p right)), WidthMismatch) ∷ []
node_faults p (Negate source) = []
node_faults p (Arrange source key) = (not (nat_le 1 key && nat_le key (width_of p source)), BadKey) ∷ []
node_faults p (Join left right) =
    (not (is_arranged p left && is_arranged p right), NotArranged)
    ∷ (not (eqb (key_of p left) (key_of p right)), KeyMismatch)
    ∷ (not (is_width (width_from (key_width p (Join left right)) (Join left right) (width_of p))), BadWidth) ∷ []
node_faults p (Reduce kind source) =
    (not (is_arranged p source), NotArranged)
    ∷ (not (is_width (width_from (key_width p (Reduce kind source)) (Reduce kind source) (width_of p))), BadWidth) ∷ []
node_faults p (Output source) = []

-- the refusal of the first fault that is present
abbrev pub first_refusal : List (Bool × Refusal) → Option Refusal
first_refusal [] = None
first_refusal (fault ∷ rest) = if fault.0 then Some fault.1 else first_refusal rest

-- why the rules refuse a node after the nodes of a plan, if they do
abbrev pub node_refusal : List Node → Node → Option Refusal
node_refusal p node =
    first_refusal ((nat_le 256 (length p), TooManyNodes)
    ∷ (not (list_all (is_readable p) (sources node)), UnknownName) ∷ node_faults p node)

-- a list of nodes is a plan if the rules accept each node after the nodes before it
abbrev pub IsPlan : List Node → Type 0
IsPlan p = (n : ℕ) → n < length p → node_refusal (take n p) (node_at p n) ≡ None
