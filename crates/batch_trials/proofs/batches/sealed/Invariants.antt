use Rattle.std.proofs.Common.{◌≡◌, take}
use Rattle.batch_trials.proofs.batches.sealed.Given as goal

abbrev pub invariant-loop-update : goal.invariant-loop-update
invariant-loop-update l = l.builder ≡ record { worker = 0; node = 0; updates = take l.update-index l.updates }
