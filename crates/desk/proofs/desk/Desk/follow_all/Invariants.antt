use Rattle.std.proofs.Common.{ℕ, ◌<◌}
use Rattle.desk.specs.Upkeep.{IsFollowed, LeadsOn}
use Rattle.desk.proofs.desk.Desk.follow_all.Given as goal

-- the holds of the joins so far have moved
abbrev pub invariant-loop-n : goal.invariant-loop-n
invariant-loop-n g l = LeadsOn g.T.PartialOrder.times l.plan l.fronts l.fn.self l.self × ((m : ℕ) → m < l.n → IsFollowed l.plan l.fronts l.self m)
