use Rattle.std.proofs.Common.{◌≡◌, ◌∙◌, ap, ap₂, List}
use Rattle.std.specs.List.{filter}
use Rattle.plan.specs.Changes.{has_passed}
use Rattle.views.specs.Views.{ViewState}
use Rattle.update.specs.declared.change.Update.{Update}
use Rattle.accounts.specs.Accounts.{AccountState, front_of}
use Rattle.machine.specs.Boards.{BoardState}
use Rattle.machine.specs.Boards.Reads.{captured_of, front}
use Rattle.machine.proofs.BoardLemmas.FrontLemmas.{on_ok}
use Rattle.machine.proofs.BoardLemmas.ReadLemmas.{view_read}
use Rattle.machine.proofs.board.Board.passed_captured.Goals as goal

pub returns-clause-passed : goal.returns-clause-passed
returns-clause-passed g c =
    let times = g.T.PartialOrder.times in
    let b = c.args.self.now in
    let v = c.args.view in
    let seen = view_read b c.self.view_is v c.number.result c.number.ensures c.requires.within c.index.result.now c.self.invariant c.index.ensures in
    let captured : c.captured-captured.result.now ≡ captured_of b v = c.captured-captured.ensures ∙ ap (λ (z : ViewState g.row.T.Denot). z.captured) seen in
    on_ok c.passed_by.result _ _
    (λ passed e. e
    ∙ (ap₂ (λ (a : AccountState g.row.T.Denot) (us : List (Update g.row.T.Denot)). filter (λ u. has_passed times (front_of times a v) u.time) us) c.refresh.ensures.kept captured
    ∙ ap (λ (z : BoardState g.row.T.Denot). filter (λ u. has_passed times (front times z v) u.time) (captured_of b v)) c.self.view_is))
    c.passed_by.ensures.passed
