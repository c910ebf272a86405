use Rattle.std.proofs.Common.{◌≡◌, ◌<◌, ℕ, length, get_or, false}
use Rattle.plan.specs.Ancestors.{reaches}
use Rattle.plan.proofs.plan.Plan.reaches.Given as goal

-- a node so far is marked if and only if the node `above` reaches it
abbrev pub invariant-loop-n : goal.invariant-loop-n
invariant-loop-n l = (length l.marks ≡ 256) × ((m : ℕ) → m < l.n → get_or l.marks m false ≡ reaches l.self l.above m)
