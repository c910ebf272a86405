use Rattle.std.proofs.Common.{◌≡◌, false, ap, ◌∙◌}
use Rattle.steps.specs.Workers.{WorkerView}
use Rattle.steps.proofs.WorkerLemmas.{going, tried_to_give}
use Rattle.steps.proofs.worker.Worker.give.Goals as goal

pub invariant_of-self : goal.invariant_of-self
invariant_of-self g c =
    let times = g.T.PartialOrder.times in
    let cmp = g.T.Ord.cmp in
    let inside = c.self.inside in
    let was : WorkerView g.row.T.Denot = record { known = inside.actor; desk = inside.desk; hand = inside.hand; failed = inside.failed } in
    let goes : inside.failed ≡ false = ap (λ (w : WorkerView g.row.T.Denot). w.failed) c.self.view_is ∙ c.requires.going in
    let gave = c.give in
    let same = tried_to_give c.args.node inside.actor gave.new.actor inside.hand gave.new.hand gave.result gave.ensures.tried gave.ensures.refused in
    going times cmp inside.plan inside.routing inside.number was (record { known = gave.new.actor; desk = gave.new.desk; hand = gave.new.hand; failed = inside.failed }) c.self.invariant goes same.0 same.1 gave.ensures.right
