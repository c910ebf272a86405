use Rattle.std.proofs.Common.{◌≡◌, ◌≤◌, ◌∷◌, [], arith}
use Rattle.std.proofs.lemmas.Grind.{common_steps}
use Rattle.antichain.proofs.AntichainLemmas.{frontier_one_time}
use Rattle.antichain.proofs.frontier.Antichain.from_elem.Goals as goal

pub invariant_of-result : goal.invariant_of-result
invariant_of-result g c =
    let items : c.unwrap.result.items ≡ c.args.t ∷ [] = grind (arith, common_steps) in
    let room : 4 ≤ c.unwrap.result.capacity = grind (arith, common_steps) in
    (rw items (frontier_one_time g.T.PartialOrder.times g.T.Ord.cmp c.args.t), room)
