use Rattle.std.proofs.Common.{IsTrue, ◌∙◌, sym, subst}
use Rattle.lattice.specs.Frontiers.{all_beyond}
use Rattle.batch.specs.Descriptions.{BuilderState}
use Rattle.operator.specs.Arrangements.{IsFrontOf, times_of}
use Rattle.operator.proofs.FrontLemmas.{front_covers, front_tight}
use Rattle.operator.proofs.arrangement.pending.Waiting.held.Given.{Over}
use Rattle.operator.proofs.arrangement.pending.Waiting.held.Goals as goal

-- the copy is a front of the updates
front : (g : Over) (c : goal.In_ok-from_slice g) → IsFrontOf g.T.PartialOrder.times c.self.inside.front.items c.args.self.now.updates
front g c = subst (λ (w : BuilderState g.row.T.Denot). IsFrontOf g.T.PartialOrder.times c.self.inside.front.items w.updates) c.self.view_is c.self.invariant

pub returns-clause-covers : goal.returns-clause-covers
returns-clause-covers g c =
    let times = g.T.PartialOrder.times in
    subst (λ F. IsTrue (all_beyond times F (times_of c.args.self.now.updates))) (sym (c.in_ok-from_slice.ensures.items ∙ c.as_slice.ensures.value))
    (front_covers times g.met.T.PartialOrder.order c.self.inside.front.items c.args.self.now.updates (front g c))

pub returns-clause-tight : goal.returns-clause-tight
returns-clause-tight g c =
    let times = g.T.PartialOrder.times in
    subst (λ F. IsTrue (all_beyond times (times_of c.args.self.now.updates) F)) (sym (c.in_ok-from_slice.ensures.items ∙ c.as_slice.ensures.value))
    (front_tight times g.met.T.PartialOrder.order c.self.inside.front.items c.args.self.now.updates (front g c))
