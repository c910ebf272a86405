use Rattle.std.proofs.Common.{◌↔◌, ◌⊎◌, IsTrue, map, subst, arith}
use Rattle.std.proofs.lemmas.List.{take_all}
use Rattle.joined_times.specs.Joined.{Member}
use Rattle.joined_times.proofs.AdditionLemmas.{moved_more, late_more}
use Rattle.joined_times.proofs.times.push_parts.Goals as goal

pub loop-s-preserved : goal.loop-s-preserved
loop-s-preserved g c =
    let within = c.args.within.now.items in
    let beyond = c.args.beyond.now.items in
    let to_part = c.in_ok-push_to_part.ensures in
    record {
      members = λ s.
          moved_more (λ r. g.T.PartialOrder.times.joined r c.args.bounds.meet) c.args.near.now c.loop-s.s-index c.s-item.result c.join.result s (Member s within ⊎ Member s beyond)
          (Member s c.loop-s.within.items ⊎ Member s c.loop-s.beyond.items) (Member s c.push_to_part.new.within.items ⊎ Member s c.push_to_part.new.beyond.items)
          c.loop-s-test.true c.s-item.is c.join.ensures (c.loop-s.invariant.members s) (to_part.members s);
      beyond = λ s.
          late_more (Member s beyond) (Member s c.loop-s.beyond.items) (Member s c.push_to_part.new.beyond.items) (IsTrue (g.T.PartialOrder.times.below c.args.bounds.join s))
          (c.loop-s.invariant.beyond s) (to_part.beyond s);
    }

pub returns-clause-members : goal.returns-clause-members
returns-clause-members g c s =
    subst (λ rs. (Member s c.loop-s.within.items ⊎ Member s c.loop-s.beyond.items) ↔ ((Member s c.args.within.now.items ⊎ Member s c.args.beyond.now.items) ⊎ Member s (map (λ r. g.T.PartialOrder.times.joined r c.args.bounds.meet) rs))) (take_all c.loop-s.s-index c.args.near.now (omega arith)) (c.loop-s.invariant.members s)
