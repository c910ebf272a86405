use Rattle.std.proofs.Common.{◌↔◌, ◌⊎◌, IsTrue, map, take}
use Rattle.joined_times.specs.Joined.{Member}
use Rattle.joined_times.proofs.times.push_parts.Given as goal

-- the near times so far are moved, each to its part
abbrev pub invariant-loop-s : goal.invariant-loop-s
invariant-loop-s g l = record {
  members : (s : _) → (Member s l.within.items ⊎ Member s l.beyond.items) ↔ ((Member s l.fn.within.items ⊎ Member s l.fn.beyond.items) ⊎ Member s (map (λ r. g.T.PartialOrder.times.joined r l.fn.bounds.meet) (take l.s-index l.near)));
  beyond : (s : _) → Member s l.beyond.items → Member s l.fn.beyond.items ⊎ IsTrue (g.T.PartialOrder.times.below l.fn.bounds.join s);
}
