use Rattle.spine.proofs.MergeLemmas.{nothing_worked}
use Rattle.spine.proofs.spine.Spine.begin_next.Goals as goal

pub returns-in-None-clause-worked : goal.returns-in-None-clause-worked
returns-in-None-clause-worked g c = nothing_worked g.T.PartialOrder.times g.met.T.PartialOrder.order c.args.self.now
