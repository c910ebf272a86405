use Rattle.std.proofs.Common.{not, ◌&&◌, eqb, ap, subst, ◌∙◌}
use Rattle.std.specs.Prelude.{Result, Ok, Err, OnErr}
use Rattle.lattice.specs.Frontiers.{is_beyond}
use Rattle.antichain.specs.Antichains.{SameElements, least}
use Rattle.progress.specs.Scopes.{is_in_scope, scope_node}
use Rattle.progress.specs.Tallies.{TallyState, is_marked, times_where}
use Rattle.progress.proofs.tally.Tally.answer.Goals as goal

on_err : {A E : Type 0} (r : Result A E) (P : Type 0) → P → OnErr r P
on_err (Ok x) P p = tt
on_err (Err e) P p = p

pub returns-clause-least : goal.returns-clause-least
returns-clause-least g c =
    let times = g.T.PartialOrder.times in
    let found = c.in_ok-found.found in
    subst (λ (s : TallyState g.row.T.Denot). SameElements found (least times (times_where (is_in_scope s.nodes c.args.scope.now) s.items))) c.self.view_is
    c.in_ok-found.ensures.least

pub returns-clause-beyond : goal.returns-clause-beyond
returns-clause-beyond g c t =
    let times = g.T.PartialOrder.times in
    c.in_ok-found.ensures.beyond t
    ∙ (λ i. is_beyond times (least times (times_where (is_in_scope (c.self.view_is i).nodes c.args.scope.now) (c.self.view_is i).items)) t)

pub returns-clause-unmarked : goal.returns-clause-unmarked
returns-clause-unmarked g c n =
    c.in_ok-found.ensures.unmarked n
    ∙ (λ k. is_marked (c.self.view_is k).marked n && not (eqb n (scope_node c.args.scope.now)))

pub returns-in_err-found-clause-unanswered : goal.returns-in_err-found-clause-unanswered
returns-in_err-found-clause-unanswered g c =
    on_err c.from_residual.result _ (c.in_err-found.ensures.unanswered ∙ ap (λ (s : TallyState g.row.T.Denot). s.marked) c.self.view_is)
