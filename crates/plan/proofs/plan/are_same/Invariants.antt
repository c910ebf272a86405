use Rattle.std.proofs.Common.{◌≡◌, ◌<◌, ℕ}
use Rattle.plan.specs.Nodes.{node_at}
use Rattle.plan.proofs.plan.are_same.Given as goal

-- the nodes so far are equal
abbrev pub invariant-loop-n : goal.invariant-loop-n
invariant-loop-n l = (m : ℕ) → m < l.n → node_at l.plan m ≡ node_at l.other m
