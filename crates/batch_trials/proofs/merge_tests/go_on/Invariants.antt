use Rattle.batch.specs.Merges.{IsUnderway}
use Rattle.batch_trials.proofs.merge_tests.go_on.Given as goal

abbrev pub invariant-loop : goal.invariant-loop
invariant-loop g l = IsUnderway g.T.PartialOrder.times g.T.Ord.cmp l.a.updates l.b.updates l.merging
