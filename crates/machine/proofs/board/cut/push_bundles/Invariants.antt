use Rattle.std.proofs.Common.{◌≡◌, ℕ, ◌≤◌, ◌++◌, [], length, get_or}
use Rattle.histories.specs.Histories.Cuts.{bundles_along}
use Rattle.machine.proofs.board.cut.push_bundles.Given as goal

-- the bundles of the workers so far; the parts of the others are as they were
abbrev pub invariant-loop-worker : goal.invariant-loop-worker
invariant-loop-worker g l = record {
  long : length l.parts.items ≡ length l.fn.parts.items;
  later : (k : ℕ) → l.worker ≤ k → get_or l.parts.items k [] ≡ get_or l.fn.parts.items k [];
  sent : l.sent.items ≡ l.fn.sent.items ++ bundles_along g.T.PartialOrder.times l.edge l.worker (λ k. get_or l.fn.parts.items k []);
}
