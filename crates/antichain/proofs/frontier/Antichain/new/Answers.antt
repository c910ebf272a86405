use Rattle.std.proofs.Common.{arith}
use Rattle.antichain.proofs.AntichainLemmas.{frontier_none}
use Rattle.antichain.proofs.frontier.Antichain.new.Goals as goal

pub invariant_of-result : goal.invariant_of-result
invariant_of-result g c =
    let times = g.T.PartialOrder.times in
    let cmp = g.T.Ord.cmp in
    (rw c.new.ensures.items (frontier_none times cmp), omega arith)
