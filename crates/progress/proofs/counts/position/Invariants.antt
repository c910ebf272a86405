use Rattle.std.proofs.Common.{◌≡◌, ℕ, ◌<◌}
use Rattle.std.specs.Prelude.{slice_index_or}
use Rattle.progress.specs.declared.counted.Counted.{Counted}
use Rattle.progress.proofs.counts.position.Given as goal

-- no item so far is the one
abbrev pub invariant-loop-number : goal.invariant-loop-number
invariant-loop-number g l =
    let x : Counted g.row.T.Denot = record { place = l.place; time = l.t } in
    (k : ℕ) → k < l.number → slice_index_or l.items k x ≡ x → ⊥
