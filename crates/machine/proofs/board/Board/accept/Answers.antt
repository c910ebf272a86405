use Rattle.std.proofs.Common.{◌≡◌, IfErr, get_or, ap, sym, subst, ◌∙◌}
use Rattle.std.proofs.lemmas.Result.{err_from_is_err_and}
use Rattle.plan.specs.Rules.{first_refusal}
use Rattle.update.specs.Refusals.{IsRefusalBy}
use Rattle.outstanding.specs.Inputs.{front_at, feed_faults}
use Rattle.machine.specs.Boards.{accept_change, feed_refusal}
use Rattle.machine.proofs.BoardLemmas.AcceptLemmas.{one_accepted, count_read, board_accepting}
use Rattle.machine.proofs.board.Board.accept.Goals as goal

pub returns-clause-fed : goal.returns-clause-fed
returns-clause-fed g c =
    let b = c.args.self.now in
    let taken : c.index-taken.result.now ≡ get_or b.accepted c.args.input 0 = count_read b c.self.view_is c.args.input c.number.result c.number.ensures c.requires.0 c.index-taken.result.now c.self.invariant c.index-taken.ensures in
    one_accepted b c.send_change.new.self c.self-2.view_is (record { input = c.args.input; update = c.remembered_feed-update.result.0 }) c.number-2.result c.index-taken.result.now c.in_ok-send_change.ensures.sent c.number-2.ensures taken
    ∙ ap (λ u. accept_change (record { input = c.args.input; update = u }) b) c.remembered_feed-update.ensures.same

pub invariant_of-self : goal.invariant_of-self
invariant_of-self g c = board_accepting _ c.number-2.result _ c.self-2.invariant

pub returns-in_err-send_change-clause-refused : goal.returns-in_err-send_change-clause-refused
returns-in_err-send_change-clause-refused g c =
    let b = c.args.self.now in
    let taken : c.index-taken.result.now ≡ get_or b.accepted c.args.input 0 = count_read b c.self.view_is c.args.input c.number.result c.number.ensures c.requires.0 c.index-taken.result.now c.self.invariant c.index-taken.ensures in
    let nodes : c.plan.result.now ≡ b.dataflow.nodes = c.plan.ensures.value ∙ (λ i. (c.self.view_is i).dataflow.nodes) in
    let fronts : c.inputs-inputs.result.now ≡ b.inputs = c.inputs-inputs.ensures.value ∙ (λ i. (c.self.view_is i).inputs) in
    let asked : c.feed_refusal.result ≡ feed_refusal g.T.PartialOrder.times b (record { input = c.args.input; update = c.args.update }) = (
    c.feed_refusal.ensures
    ∙ (λ i. first_refusal (feed_faults g.T.PartialOrder.times (nodes i) (front_at c.args.input (fronts i)) (taken i) (record { input = c.args.input; update = c.args.update })))) in
    let got = err_from_is_err_and c.from_residual.result c.from_residual.ensures.1 in
    subst (λ o. IfErr c.from_residual.result (IsRefusalBy o)) (sym c.in_default.is ∙ asked) (rw got.1 (got.2 ∙ c.in_err-send_change.ensures.refused))
