-- The nodes of a plan, each by its number, which is its index in the plan's list; and the sort of a
-- node, which says how it is run.
use Rattle.std.specs.Prelude.{ℕ, Bool, true, false, List, [], ◌∷◌, Option, Some, None, slice_get, unwrap_or, option_map}
use Rattle.plan.specs.declared.sort.Sort.{Sort}
use Rattle.plan.specs.declared.sort.Sort.TheVariants.{Source, Stateless, Arrangement, Bilinear, Reduction, View}
use Rattle.plan.specs.declared.node.Node.{Node}
use Rattle.plan.specs.declared.node.Node.TheVariants.{Input, Map, Filter, Concat, Negate, Arrange, Join, Reduce, Output}

-- the node with a number; a number that the plan does not have is read as an input with no columns
abbrev pub node_at : List Node → ℕ → Node
node_at p n = unwrap_or (slice_get p n) (Input 0)

-- how the node is run
abbrev pub sort : Node → Sort
sort (Input width) = Source
sort (Map source items) = Stateless
sort (Filter source test) = Stateless
sort (Concat left right) = Stateless
sort (Negate source) = Stateless
sort (Arrange source key) = Arrangement
sort (Join left right) = Bilinear
sort (Reduce kind source) = Reduction
sort (Output source) = View

-- the sorts are the same
abbrev pub same_sort : Sort → Sort → Bool
same_sort Source Source = true
same_sort Stateless Stateless = true
same_sort Arrangement Arrangement = true
same_sort Bilinear Bilinear = true
same_sort Reduction Reduction = true
same_sort View View = true
same_sort one other = false

-- nodes of this sort are linear: their output for a sum is the sum of their outputs for its parts
abbrev pub adds_up : Sort → Bool
adds_up Bilinear = false
adds_up Reduction = false
adds_up other = true

-- the node is an input: its rows come from outside
abbrev pub is_input : Node → Bool
is_input node = same_sort Source (sort node)

-- the node is a view
abbrev pub is_output : Node → Bool
is_output node = same_sort View (sort node)

-- the node is a join: it pairs rows of two sources
abbrev pub is_join : Node → Bool
is_join node = same_sort Bilinear (sort node)

-- the node is a reduction: it answers each key from all rows of the key
abbrev pub is_reduction : Node → Bool
is_reduction node = same_sort Reduction (sort node)

-- the node is linear: it is no join and no reduction
abbrev pub is_linear : Node → Bool
is_linear node = adds_up (sort node)

-- the nodes that a node reads, a source for each port
abbrev pub sources : Node → List ℕ
sources (Input width) = []
sources (Map source items) = source ∷ []
sources (Filter source test) = source ∷ []
sources (Concat left right) = left ∷ right ∷ []
sources (Negate source) = source ∷ []
sources (Arrange source key) = source ∷ []
sources (Join left right) = left ∷ right ∷ []
sources (Reduce kind source) = source ∷ []
sources (Output source) = source ∷ []

-- the number of key columns by which an arrange node arranges its rows; None for any other node
abbrev pub arranged_by : Node → Option ℕ
arranged_by (Arrange source key) = Some key
arranged_by other = None

-- the width of the key by which a node is arranged; 0 if it is no arrange node
abbrev pub key_of : List Node → ℕ → ℕ
key_of p n = unwrap_or (arranged_by (node_at p n)) 0

-- the width of the key by which a node's first source is arranged; 0 if it has no source, or the
-- source is no arrange node
abbrev pub key_width : List Node → Node → ℕ
key_width p node = unwrap_or (option_map (key_of p) (slice_get (sources node) 0)) 0
