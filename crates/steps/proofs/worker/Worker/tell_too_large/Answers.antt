use Rattle.std.proofs.Common.{subst, sym}
use Rattle.steps.specs.Workers.{HasSeenTooLarge, WorkerView}
use Rattle.steps.proofs.worker.Worker.tell_too_large.Goals as goal

-- a worker that failed has seen the cause
pub tell_too_large-requires : goal.tell_too_large-requires
tell_too_large-requires g c = record {
  cause = subst (λ (w : WorkerView g.row.T.Denot). HasSeenTooLarge g.T.PartialOrder.times g.T.Ord.cmp w.known) (sym c.self.view_is)
      (c.known.ensures.large c.requires.failed);
}
