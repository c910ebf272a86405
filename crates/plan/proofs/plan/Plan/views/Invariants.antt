use Rattle.std.proofs.Common.{◌≡◌}
use Rattle.std.specs.List.{filter}
use Rattle.plan.specs.Nodes.{node_at, is_output}
use Rattle.plan.specs.Ancestors.{numbers_below}
use Rattle.plan.proofs.plan.Plan.views.Given as goal

-- the views so far are listed
abbrev pub invariant-loop-n : goal.invariant-loop-n
invariant-loop-n l = l.ids.items ≡ filter (λ n. is_output (node_at l.self n)) (numbers_below l.n)
