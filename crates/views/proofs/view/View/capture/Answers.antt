use Rattle.views.proofs.ViewLemmas.{still_remembered}
use Rattle.views.proofs.view.View.capture.Goals as goal

pub invariant_of-self : goal.invariant_of-self
invariant_of-self g c =
    still_remembered g.T.PartialOrder.times c.move_to.result c.self.inside.last (λ r. r.time) (λ r. r.bag) (λ r. r.known) (λ r. r.later.items)
    c.self.inside.captured c.move_to.new.others c.args.updates.now c.move_to.ensures.more c.move_to.ensures.same c.self.invariant
