use Rattle.std.proofs.Common.{◌≡◌, ℕ, ◌<◌}
use Rattle.std.specs.Prelude.{slice_index_or}
use Rattle.progress.proofs.time_counts.position.Given as goal

-- no time so far is the one
abbrev pub invariant-loop-number : goal.invariant-loop-number
invariant-loop-number g l = (k : ℕ) → k < l.number → slice_index_or l.times k l.t ≡ l.t → ⊥
