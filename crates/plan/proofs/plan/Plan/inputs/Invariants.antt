use Rattle.std.proofs.Common.{◌≡◌}
use Rattle.std.specs.List.{filter}
use Rattle.plan.specs.Nodes.{node_at, is_input}
use Rattle.plan.specs.Ancestors.{numbers_below}
use Rattle.plan.proofs.plan.Plan.inputs.Given as goal

-- the inputs so far are listed
abbrev pub invariant-loop-n : goal.invariant-loop-n
invariant-loop-n l = l.ids.items ≡ filter (λ n. is_input (node_at l.self n)) (numbers_below l.n)
