-- The plain query as the code computes it: what a node reads at its ports, which list belongs to
-- which input, and which numbers may fail to fit in 64 bits.
use Rattle.std.specs.Prelude.{◌≡◌, ℕ, Bool, true, List, [], ◌⊎◌, ◌<◌, take, length, eqb, not, ◌||◌, ◌*ℤ◌, FitsSigned, IsTrue, Option, Some, None, slice_get, slice_index_or, ℤ}
use Rattle.std.specs.Int.{w64}
use Rattle.std.specs.List.{filter, list_all}
use Rattle.update.specs.Bags.{Entry, Alike, HasLargeCount, count_of}
use Rattle.update.specs.Updates.{as_of}
use Rattle.update.specs.declared.change.Update.{Update}
use Rattle.plan.specs.Nodes.{node_at, sources, key_width, is_input}
use Rattle.plan.specs.Ancestors.{reaches, numbers_below}
use Rattle.plan.specs.Operators.{operator_output}
use Rattle.plan.specs.Queries.{query, source_value}
use Rattle.plan.specs.Widths.{width_of}
use Rattle.plan.specs.declared.kind.Kind.TheVariants.{Count}
use Rattle.plan.specs.declared.node.Node.{Node}
use Rattle.plan.specs.declared.node.Node.TheVariants.{Arrange, Join, Reduce, Output}
use Rattle.oracle.specs.Entries.{all_wide}
use Rattle.oracle.specs.Reduced.{HasLargeNumber}
use Rattle.lattice.specs.Times.{Times}

-- the bag at a port of a node: that of the source, or the outside bag if the node is an input
abbrev pub ports : List Node → ℕ → List Entry → (ℕ → List Entry) → ℕ → List Entry
ports p n outside bags port = source_value outside bags (slice_get (sources (node_at p n)) port)

-- the rows that a node gives from the bags at its ports
abbrev pub output_at : List Node → ℕ → List Entry → (ℕ → List Entry) → List Entry
output_at p n outside bags =
    operator_output (key_width p (node_at p n)) (node_at p n) (ports p n outside bags)

-- the bag of node n in a list of bags
abbrev pub nth_bag : List (List Entry) → ℕ → List Entry
nth_bag bags n = slice_index_or bags n []

-- the source whose rows the node passes on as they are, if it does
abbrev pub passed_on : Node → Option ℕ
passed_on (Arrange source key) = Some source
passed_on (Output source) = Some source
passed_on other = None

-- two rows have the same key, and the product of their counts does not fit in 64 bits
abbrev pub HasLargeProductOf : ℕ → List Entry → List Entry → Type 0
HasLargeProductOf k left right = (row : List ℤ) × (other : List ℤ) × (take k row ≡ take k other)
    × (FitsSigned w64 (count_of left row *ℤ count_of right other) → ⊥)

-- a product in a join, or the total of a count, does not fit in 64 bits
abbrev pub HasLargeStep : ℕ → Node → (ℕ → List Entry) → Type 0
HasLargeStep k (Join left right) bags = HasLargeProductOf k (bags 0) (bags 1)
HasLargeStep k (Reduce Count source) bags = HasLargeNumber k (bags 0)
HasLargeStep k other bags = ⊥

-- some count in the node's output does not fit in 64 bits, or a step on the way to it does not
abbrev pub HasLargeAt : List Node → ℕ → List Entry → (ℕ → List Entry) → Type 0
HasLargeAt p n outside bags = HasLargeCount (output_at p n outside bags)
    ⊎ HasLargeStep (key_width p (node_at p n)) (node_at p n) (ports p n outside bags)

-- this is so at node n, or at a node from which n can be reached
abbrev pub HasLargeAbove : List Node → (ℕ → List Entry) → ℕ → Type 0
HasLargeAbove p inputs n = (m : ℕ) × IsTrue (reaches p m n)
    × HasLargeAt p m (inputs m) (query p inputs)

-- how many inputs have smaller numbers
abbrev pub inputs_before : List Node → ℕ → ℕ
inputs_before p n = length (filter (λ m. is_input (node_at p m)) (numbers_below n))

-- the list of an input, in a list of lists in the order of the inputs' numbers
abbrev pub list_of : {X : Type 0} → List Node → List (List X) → ℕ → List X
list_of p lists n = slice_index_or lists (inputs_before p n) []

-- the node is not an input, or the rows of its list have its width
abbrev pub is_wide_at : {T : Type 0} → List Node → List (List (Update T)) → ℕ → Bool
is_wide_at p lists n =
    not (is_input (node_at p n)) || list_all (λ u. eqb (length u.row) (width_of p n)) (list_of p lists n)

-- the rows of each input's list have its width
abbrev pub AreWide : {T : Type 0} → List Node → List (List (Update T)) → Type 0
AreWide p lists = (n : ℕ) → n < length p → is_input (node_at p n) ≡ true
    → IsTrue (list_all (λ u. eqb (length u.row) (width_of p n)) (list_of p lists n))

-- the bag to which an input's list sums at t
abbrev pub sums_at : {T : Type 0} → Times T → List Node → List (List (Update T)) → T → ℕ
    → List Entry
sums_at times p lists t input = as_of times t (list_of p lists input)

-- the bags of the first nodes: their rows have the widths of the nodes, and for each node above the
-- view (or the view itself) the bag is the answer of the query
pub record AreBags (p : List Node) (inputs : ℕ → List Entry) (view : ℕ) (bags : List (List Entry)) : Type 0 where
  pub wide : (m : ℕ) → m < length bags → IsTrue (all_wide (width_of p m) (nth_bag bags m))
  pub found : (m : ℕ) → m < length bags → IsTrue (reaches p m view)
      → Alike (nth_bag bags m) (query p inputs m)
