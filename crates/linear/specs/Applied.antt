-- The output of a linear node: it works update by update and keeps the times (McSherry et al.,
-- Differential Dataflow, CIDR 2013, section 3).
use Rattle.std.specs.Prelude.{List, map, FitsSigned, neg_ℤ}
use Rattle.std.specs.Int.{w64}
use Rattle.std.specs.List.{filter, Any}
use Rattle.row.specs.Projection.{projection}
use Rattle.row.specs.Filters.{passes}
use Rattle.row.specs.declared.projection.Item.{Item}
use Rattle.update.specs.declared.change.Update.{Update}
use Rattle.plan.specs.declared.node.Node.{Node}
use Rattle.plan.specs.declared.node.Node.TheVariants.{Map, Filter, Negate}

-- the update, with its row replaced by the row's image
abbrev pub mapped_update : {T : Type 0} → List Item → Update T → Update T
mapped_update items u = record u { row = projection items u.row }

-- the update, with its diff negated
abbrev pub negated_update : {T : Type 0} → Update T → Update T
negated_update u = record u { diff = neg_ℤ u.diff }

-- the output of a linear node for the updates that come to one of its ports; it means nothing for
-- joins and reductions
abbrev pub linear_output : {T : Type 0} → Node → List (Update T) → List (Update T)
linear_output (Map source items) us = map (mapped_update items) us
linear_output (Filter source test) us = filter (λ u. passes test u.row) us
linear_output (Negate source) us = map negated_update us
linear_output other us = us

-- some diff is no 64-bit number
abbrev pub HasLargeDiff : {T : Type 0} → List (Update T) → Type 0
HasLargeDiff us = Any (λ u. FitsSigned w64 u.diff → ⊥) us

-- the output of the node has such a diff; only a negation changes diffs
abbrev pub Overflows : {T : Type 0} → Node → List (Update T) → Type 0
Overflows (Negate source) us = HasLargeDiff (map negated_update us)
Overflows other us = ⊥
