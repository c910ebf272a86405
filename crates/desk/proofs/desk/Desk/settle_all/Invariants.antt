use Rattle.std.proofs.Common.{ℕ, ◌<◌, ◌≡◌, true}
use Rattle.desk.specs.Upkeep.{IsFollowed, IsSettledAt, LeadsOn}
use Rattle.desk.proofs.desk.Desk.settle_all.Given as goal

-- the arrangements so far are settled, if nothing was left to do there
abbrev pub invariant-loop-n : goal.invariant-loop-n
invariant-loop-n g l = LeadsOn g.T.PartialOrder.times l.plan l.fronts l.fn.self l.self
    × (l.done ≡ true → (m : ℕ) → m < l.n → IsSettledAt l.plan l.fronts l.self g.T.PartialOrder.times m)
    × (((m : ℕ) → IsFollowed l.plan l.fronts l.fn.self m) → (m : ℕ) → IsFollowed l.plan l.fronts l.self m)
