use Rattle.std.proofs.Common.{◌≡◌, false, ap, subst, ◌∙◌}
use Rattle.desk_laws.specs.declared.hand.Hand.TheVariants.{Free}
use Rattle.steps.specs.Workers.{IsRightOf, WorkerView}
use Rattle.steps.proofs.WorkerLemmas.{going, tried_to_take}
use Rattle.steps.proofs.worker.Worker.take.Goals as goal

pub invariant_of-self : goal.invariant_of-self
invariant_of-self g c =
    let times = g.T.PartialOrder.times in
    let order = g.met.T.PartialOrder.order in
    let cmp = g.T.Ord.cmp in
    let inside = c.self.inside in
    let was : WorkerView g.row.T.Denot = record { known = inside.actor; desk = inside.desk; hand = inside.hand; failed = inside.failed } in
    let goes : inside.failed ≡ false = ap (λ (w : WorkerView g.row.T.Denot). w.failed) c.self.view_is ∙ c.requires.going in
    let free : inside.hand ≡ Free = ap (λ (w : WorkerView g.row.T.Denot). w.hand) c.self.view_is ∙ c.requires.free in
    let took = c.take_piece in
    let same = tried_to_take times c.args.pick inside.actor took.new.actor took.new.hand took.result took.ensures.tried took.ensures.refused in
    going times cmp inside.plan inside.routing inside.number was (record { known = took.new.actor; desk = inside.desk; hand = took.new.hand; failed = inside.failed }) c.self.invariant goes same.0 same.1
    (took.ensures.right inside.desk (subst (IsRightOf times inside.actor inside.desk) free (c.self.invariant.right goes)))
