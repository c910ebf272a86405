-- The plan of the sessions that are tested.
use Rattle.std.specs.Prelude.{List, [], ◌∷◌}
use Rattle.plan.specs.declared.kind.Kind.TheVariants.{Count}
use Rattle.plan.specs.declared.node.Node.{Node}
use Rattle.plan.specs.declared.node.Node.TheVariants.{Input, Output, Arrange, Reduce}

-- an input of one column and a view of it, and a view of how often each of its rows is there
abbrev pub counted_rows : List Node
counted_rows = Input 1 ∷ Output 0 ∷ Arrange 0 1 ∷ Reduce Count 2 ∷ Output 3 ∷ []
