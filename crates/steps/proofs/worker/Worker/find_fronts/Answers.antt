use Rattle.std.proofs.Common.{rules, ◌≡◌, ◌<◌, List, length, false, sym, ap, subst, ◌∙◌}
use Rattle.std.specs.Prelude.{All}
use Rattle.plan.specs.declared.node.Node.{Node}
use Rattle.histories.specs.declared.event.Site.{Site}
use Rattle.desk_laws.specs.declared.hand.Hand.TheVariants.{Free}
use Rattle.steps.specs.Steps.{ArePorts}
use Rattle.steps.specs.Workers.{IsRightOf, WorkerView}
use Rattle.steps.proofs.WorkerLemmas.{flow_after, going, number_after}
use Rattle.steps.proofs.worker.Worker.find_fronts.Goals as goal

pub find_fronts-requires : goal.find_fronts-requires
find_fronts-requires g c =
    let nodes = c.self.invariant.nodes in
    let same = c.as_slice.ensures.value in (
      search rules,
      (
        subst (λ (x : List Node × List Site). All (λ (site : Site). site.node < length x.0) x.1) (λ i. (nodes i, sym same i)) c.in_ok-ports.ensures.within,
        subst (λ (x : List Node × List Site). ArePorts x.0 (length x.0) x.1) (λ i. (nodes i, sym same i)) c.in_ok-ports.ensures.ports,
      ),
    )

pub invariant_of-self : goal.invariant_of-self
invariant_of-self g c =
    let times = g.T.PartialOrder.times in
    let cmp = g.T.Ord.cmp in
    let inside = c.self.inside in
    let was : WorkerView g.row.T.Denot = record { known = inside.actor; desk = inside.desk; hand = inside.hand; failed = inside.failed } in
    let goes : inside.failed ≡ false = ap (λ (w : WorkerView g.row.T.Denot). w.failed) c.self.view_is ∙ c.requires.going in
    let free : inside.hand ≡ Free = ap (λ (w : WorkerView g.row.T.Denot). w.hand) c.self.view_is ∙ c.requires.free in
    let found = c.find_fronts in
    let new = found.new.actor in
    going times cmp inside.plan inside.routing inside.number was (record { known = new; desk = inside.desk; hand = inside.hand; failed = inside.failed }) c.self.invariant goes
    (flow_after inside.actor new found.ensures.looked) (number_after inside.actor new found.ensures.looked)
    (subst (IsRightOf times new inside.desk) (sym free) (found.ensures.right inside.desk (subst (IsRightOf times inside.actor inside.desk) free (c.self.invariant.right goes))))
