use Rattle.std.proofs.Common.{length}
use Rattle.spine.specs.Spines.{IsWorkedOn}
use Rattle.spine.proofs.spine.Spine.give_up_barred.Given as goal

-- nothing was spent, and only what was read in vain is lost
abbrev pub invariant-loop-self : goal.invariant-loop-self
invariant-loop-self g l = IsWorkedOn g.T.PartialOrder.times 0 l.fn.self l.self

abbrev pub decreases-loop-self : goal.decreases-loop-self
decreases-loop-self g l = length l.self.progress.underway
