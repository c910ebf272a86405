use Rattle.std.proofs.Common.{not, ◌&&◌, eqb, ap, ◌∙◌}
use Rattle.std.specs.Prelude.{Result, Ok, Err, OnErr}
use Rattle.progress.specs.Tallies.{TallyState, is_marked}
use Rattle.progress.proofs.tally.Tally.refresh.Goals as goal

on_err : {A E : Type 0} (r : Result A E) (P : Type 0) → P → OnErr r P
on_err (Ok x) P p = tt
on_err (Err e) P p = p

pub returns-clause-unmarked : goal.returns-clause-unmarked
returns-clause-unmarked g c n =
    c.in_ok-refresh.ensures.unmarked n
    ∙ (λ k. is_marked (c.self.view_is k).marked n && not (eqb n c.args.node))

pub returns-in_err-refresh-clause-unanswered : goal.returns-in_err-refresh-clause-unanswered
returns-in_err-refresh-clause-unanswered g c =
    on_err c.from_residual.result _ (c.in_err-refresh.ensures.unanswered ∙ ap (λ (s : TallyState g.row.T.Denot). s.marked) c.self.view_is)
