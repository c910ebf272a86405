use Rattle.std.proofs.Common.{◌≡◌}
use Rattle.oracle.specs.Evaluation.{inputs_before}
use Rattle.oracle.proofs.evaluation.inputs_before.Given as goal

-- the inputs so far
abbrev pub invariant-loop-n : goal.invariant-loop-n
invariant-loop-n l = l.count ≡ inputs_before l.plan l.n
