use Rattle.std.proofs.Common.{sym, ap, ◌∙◌, subst, ◌≡◌, true}
use Rattle.std.specs.List.{list_all}
use Rattle.update.specs.Bags.{count_of}
use Rattle.update.specs.Updates.{as_of}
use Rattle.plan.specs.Changes.{has_passed}
use Rattle.machine.specs.Boards.Reads.{front, captured_of}
use Rattle.machine.proofs.BoardLemmas.FrontLemmas.{on_ok}
use Rattle.machine.proofs.BoardLemmas.ReadLemmas.{passed_sums, all_passed}
use Rattle.machine.proofs.board.Board.consolidated_changes.Goals as goal

pub returns-clause-passed : goal.returns-clause-passed
returns-clause-passed g c =
    let times = g.T.PartialOrder.times in
    let F = front times c.args.self.now c.args.view in
    on_ok c.consolidate.result _ _ (λ us f. f (λ row t. has_passed times F t) (subst (λ z. list_all (λ u. has_passed times F u.time) z ≡ true) (sym c.in_ok-passed.ensures.passed) (all_passed times g.met.T.PartialOrder.order F (captured_of c.args.self.now c.args.view)))) c.consolidate.ensures.among

pub returns-clause-sums : goal.returns-clause-sums
returns-clause-sums g c =
    let times = g.T.PartialOrder.times in
    let F = front times c.args.self.now c.args.view in
    on_ok c.consolidate.result _ _ (λ us f t e row. f t row ∙ ap (λ z. count_of z row) (ap (λ z. as_of times t z) c.in_ok-passed.ensures.passed ∙ passed_sums times g.met.T.PartialOrder.order F (captured_of c.args.self.now c.args.view) t e)) c.consolidate.ensures.sums
