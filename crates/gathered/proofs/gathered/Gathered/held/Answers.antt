use Rattle.std.proofs.Common.{IsTrue, List, ◌++◌, ◌∙◌, sym, ap, subst}
use Rattle.lattice.specs.Frontiers.{all_beyond}
use Rattle.update.specs.declared.change.Update.{Update}
use Rattle.histories.specs.Histories.States.{update_times}
use Rattle.operator.specs.Arrangements.{IsFrontOf}
use Rattle.operator.proofs.FrontLemmas.{front_covers, front_tight}
use Rattle.gathered.proofs.gathered.Gathered.held.Given.{Over}
use Rattle.gathered.proofs.gathered.Gathered.held.Goals as goal

-- the front that is kept is that of the updates
front : (g : Over) (c : goal.In_ok-extend_from_slice g) → IsFrontOf g.T.PartialOrder.times c.self.inside.front.items c.args.self.now
front g c = subst (λ (us : List (Update g.row.T.Denot)). IsFrontOf g.T.PartialOrder.times c.self.inside.front.items us) c.self.view_is c.self.invariant

pub returns-clause-covers : goal.returns-clause-covers
returns-clause-covers g c =
    let times = g.T.PartialOrder.times in
    subst (λ F. IsTrue (all_beyond times F (update_times c.args.self.now))) (sym (c.in_ok-extend_from_slice.ensures.items ∙ ap (λ ts. ts ++ c.as_slice.result.now) c.in_ok-held.ensures.items ∙ c.as_slice.ensures.value))
    (front_covers times g.met.T.PartialOrder.order c.self.inside.front.items c.args.self.now (front g c))

pub returns-clause-tight : goal.returns-clause-tight
returns-clause-tight g c =
    let times = g.T.PartialOrder.times in
    subst (λ F. IsTrue (all_beyond times (update_times c.args.self.now) F)) (sym (c.in_ok-extend_from_slice.ensures.items ∙ ap (λ ts. ts ++ c.as_slice.result.now) c.in_ok-held.ensures.items ∙ c.as_slice.ensures.value))
    (front_tight times g.met.T.PartialOrder.order c.self.inside.front.items c.args.self.now (front g c))
