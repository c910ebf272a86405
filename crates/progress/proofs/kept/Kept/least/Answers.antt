use Rattle.std.proofs.Common.{◌||◌, ap, ◌∙◌}
use Rattle.lattice.specs.Frontiers.{is_beyond}
use Rattle.progress.specs.Scopes.{is_in_scope}
use Rattle.progress.specs.Tallies.{times_where}
use Rattle.progress.proofs.KeptLemmas.{least_kept, beyond_kept}
use Rattle.progress.proofs.kept.Kept.least.Goals as goal

pub returns-in-Some-clause-least : goal.returns-in-Some-clause-least
returns-in-Some-clause-least g c =
    least_kept g.T.PartialOrder.times g.met.T.PartialOrder.order c.args.graph.now c.args.scope.now c.in-Some.elements.now c.in_ok-least_of.field-0 c.args.items.now
    (c.in-Some.ensures c.args.graph.now c.args.items.now c.requires.fronts) c.in_ok-least_of.ensures.least

pub returns-in-Some-clause-beyond : goal.returns-in-Some-clause-beyond
returns-in-Some-clause-beyond g c t =
    c.in_ok-least_of.ensures.beyond t
    ∙ beyond_kept g.T.PartialOrder.times g.met.T.PartialOrder.order c.args.graph.now c.args.scope.now c.in-Some.elements.now c.args.items.now
    (c.in-Some.ensures c.args.graph.now c.args.items.now c.requires.fronts) t

pub returns-clause-least : goal.returns-clause-least
returns-clause-least g c =
    let times = g.T.PartialOrder.times in
    let counted = times_where (is_in_scope c.args.graph.now c.args.scope.now) c.args.items.now in
    least_kept times g.met.T.PartialOrder.order c.args.graph.now c.args.scope.now c.deref.result.now c.in_ok-least_of-2.field-0 c.args.items.now
    (λ t. ap (λ xs. is_beyond times xs t) c.deref.ensures.value ∙ (c.in_ok-insert_times.ensures.beyond t ∙ ap (λ xs. is_beyond times xs t || is_beyond times counted t) c.new-found.ensures.items))
    c.in_ok-least_of-2.ensures.least

pub returns-clause-beyond : goal.returns-clause-beyond
returns-clause-beyond g c t =
    let times = g.T.PartialOrder.times in
    let counted = times_where (is_in_scope c.args.graph.now c.args.scope.now) c.args.items.now in
    c.in_ok-least_of-2.ensures.beyond t
    ∙ beyond_kept times g.met.T.PartialOrder.order c.args.graph.now c.args.scope.now c.deref.result.now c.args.items.now
    (λ t. ap (λ xs. is_beyond times xs t) c.deref.ensures.value ∙ (c.in_ok-insert_times.ensures.beyond t ∙ ap (λ xs. is_beyond times xs t || is_beyond times counted t) c.new-found.ensures.items)) t
