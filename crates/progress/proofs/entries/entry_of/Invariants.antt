use Rattle.std.proofs.Common.{◌≡◌, ℕ, ◌<◌}
use Rattle.std.specs.Prelude.{slice_index_or}
use Rattle.progress.proofs.entries.entry_of.Given as goal

-- no entry so far is of the time
abbrev pub invariant-loop-number : goal.invariant-loop-number
invariant-loop-number g l = (k : ℕ) (d : g.row.T.Denot × ℕ) → k < l.number → (slice_index_or l.few k d).0 ≡ l.t → ⊥
