use Rattle.std.proofs.Common.{◌≡◌, ℕ, ◌<◌, ◌≤◌, get_or, length, drop}
use Rattle.std.specs.Prelude.{IsTrue}
use Rattle.joined_times.specs.Joined.{Member}
use Rattle.key_history.proofs.sweep.meets_of.Given as goal

-- from here on each is at or before its own time and all behind it; those before are as they were
abbrev pub invariant-loop-i : goal.invariant-loop-i
invariant-loop-i g l = record {
  as_many : length l.meets.items ≡ length l.times;
  before : (j : ℕ) (s d : g.row.T.Denot) → l.i ≤ j → j < length l.times → Member s (drop j l.times) → IsTrue (g.T.PartialOrder.times.below (get_or l.meets.items j d) s);
  others : (j : ℕ) (d : g.row.T.Denot) → j < l.i → get_or l.meets.items j d ≡ get_or l.times j d;
}
