-- Which rows a linear node can take, by their width.
use Rattle.std.specs.Prelude.{ℕ, Bool, true, ◌&&◌, List, length, eqb}
use Rattle.std.specs.List.{list_all}
use Rattle.row.specs.Projection.{are_within}
use Rattle.row.specs.Filters.{is_test_within}
use Rattle.row.specs.declared.projection.Item.{Item}
use Rattle.update.specs.declared.change.Update.{Update}
use Rattle.plan.specs.Rules.{is_width}
use Rattle.plan.specs.declared.node.Node.{Node}
use Rattle.plan.specs.declared.node.Node.TheVariants.{Map, Filter}

-- rows of this width have the columns that a map's items name, and their images are rows
abbrev pub takes_items : List Item → ℕ → Bool
takes_items items columns = is_width (length items) && are_within items columns

-- rows of this width have the columns that the node names, and the node makes rows of them
abbrev pub takes_width : Node → ℕ → Bool
takes_width (Map source items) columns = takes_items items columns
takes_width (Filter source test) columns = is_test_within test columns
takes_width other columns = true

-- the node takes each of the rows
abbrev pub takes_rows : {T : Type 0} → Node → List (Update T) → Bool
takes_rows node us = list_all (λ u. takes_width node (length u.row)) us

-- each row has this many columns
abbrev pub are_wide : {T : Type 0} → ℕ → List (Update T) → Bool
are_wide columns us = list_all (λ u. eqb (length u.row) columns) us
