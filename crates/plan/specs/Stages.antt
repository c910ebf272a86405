-- How a plan is stored: each node with the width of its rows.
use Rattle.std.specs.Prelude.{◌≡◌, ℕ, List, map, Some, slice_get}
use Rattle.plan.specs.Rules.{IsPlan}
use Rattle.plan.specs.Widths.{width_of}
use Rattle.plan.specs.declared.node.Node.{Node}
use Rattle.plan.specs.declared.plan.Stage.{Stage}

-- the nodes without their widths
abbrev pub nodes_of : List Stage → List Node
nodes_of stages = map (λ stage. stage.node) stages

-- the nodes are a plan, and each is stored with its width
pub record AreStages (stages : List Stage) : Type 0 where
  pub plan : IsPlan (nodes_of stages)
  pub widths : (n : ℕ) (stage : Stage) → slice_get stages n ≡ Some stage → stage.width ≡ width_of (nodes_of stages) n
