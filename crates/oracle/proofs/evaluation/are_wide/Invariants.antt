use Rattle.std.proofs.Common.{◌≡◌, ℕ, ◌<◌, true, map}
use Rattle.oracle.specs.Evaluation.{is_wide_at}
use Rattle.oracle.proofs.evaluation.are_wide.Given as goal

-- the inputs so far have lists of their widths
abbrev pub invariant-loop-n : goal.invariant-loop-n
invariant-loop-n g l = (m : ℕ) → m < l.n → is_wide_at l.plan (map (λ v. v.items) l.changes) m ≡ true
