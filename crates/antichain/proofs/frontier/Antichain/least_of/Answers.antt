use Rattle.std.proofs.Common.{arith}
use Rattle.std.proofs.lemmas.Grind.{common_steps}
use Rattle.antichain.proofs.AntichainLemmas.{frontier_least}
use Rattle.antichain.proofs.frontier.Antichain.least_of.Goals as goal

pub returns-clause-least : goal.returns-clause-least
returns-clause-least g c =
    let times = g.T.PartialOrder.times in
    frontier_least times g.met.T.PartialOrder.order c.loop-t.frontier c.args.times.now c.loop-t.invariant.frontier.antichain
    (λ s. let turn = c.loop-t.invariant.beyond s in grind (arith, common_steps, turn))
