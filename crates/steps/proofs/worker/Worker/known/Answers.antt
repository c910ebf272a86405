use Rattle.std.proofs.Common.{ap, subst, ◌∙◌}
use Rattle.steps.specs.Workers.{HasSeenTooLarge, WorkerView}
use Rattle.steps.proofs.worker.Worker.known.Goals as goal

pub returns-clause-large : goal.returns-clause-large
returns-clause-large g c fails =
    subst (λ (w : WorkerView g.row.T.Denot). HasSeenTooLarge g.T.PartialOrder.times g.T.Ord.cmp w.known) c.self.view_is
    (c.self.invariant.large (ap (λ (w : WorkerView g.row.T.Denot). w.failed) c.self.view_is ∙ fails))
