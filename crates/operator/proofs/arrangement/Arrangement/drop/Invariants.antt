use Rattle.spine.specs.HoldRules.{AreSameHolds}
use Rattle.operator.proofs.arrangement.Arrangement.drop.Given as goal

-- what is left of the holds are those of the spine
abbrev pub invariant-loop-hold : goal.invariant-loop-hold
invariant-loop-hold g l = AreSameHolds l.holds.items l.spine.holds

abbrev pub decreases-loop-hold : goal.decreases-loop-hold
decreases-loop-hold g l = goal.left-loop-hold g l
