use Rattle.std.proofs.Common.{◌≡◌, map}
use Rattle.std.specs.Prelude.{slice_range}
use Rattle.reduce.proofs.intake.times_in.Given as goal

-- the times so far are there
abbrev pub invariant-loop-i : goal.invariant-loop-i
invariant-loop-i g l = l.times.items ≡ map (λ u. u.time) (slice_range (g.B.BatchReader.content l.batch) l.initial.i l.i)
