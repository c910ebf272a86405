use Rattle.std.proofs.Common.{◌≡◌, [], IsSomeAnd, sym, ap, ◌∙◌, subst, rules}
use Rattle.plan.specs.Changes.{has_passed}
use Rattle.update.specs.declared.change.Update.{Update}
use Rattle.views.proofs.CapturedLemmas.{found_at}
use Rattle.outstanding.proofs.PutLemmas.{put_kept, put_left}
use Rattle.accounts.specs.Accounts.{AccountState, front_of}
use Rattle.machine.proofs.board.reads.passed_by.Goals as goal
use Rattle.machine.proofs.board.reads.passed_by.Goals.{then-has_passed+in_ok-push, else-has_passed}

pub loop-i-preserved : goal.loop-i-preserved
loop-i-preserved g c =
    let i = c.loop-i in
    let us = c.args.updates.now in
    let times = g.T.PartialOrder.times in
    let passed = λ (u : Update g.row.T.Denot). has_passed times (front_of times c.args.accounts.now c.args.node) u.time in
    let here = found_at us i.i (search rules) in
    let time = subst (λ o. IsSomeAnd o (λ u. c.time.result ≡ u.time)) here.2 c.time.ensures in
    let asked : c.has_passed.result ≡ has_passed times (front_of times c.args.accounts.now c.args.node) c.time.result =
    c.has_passed.ensures.value ∙ ap (λ (z : AccountState g.row.T.Denot). has_passed times (front_of times z c.args.node) c.time.result) i.invariant.kept in
    let test = λ (b : _) (h : c.has_passed.result ≡ b). sym (ap (has_passed times (front_of times c.args.accounts.now c.args.node)) time) ∙ (sym asked ∙ h) in
    record {
      kept = c.has_passed.ensures.kept ∙ i.invariant.kept;
      passed = elim c.if-has_passed.branch [
        | then-has_passed+in_ok-push w ↦ put_kept passed [] i.passed.items c.if-has_passed.passed.items us i.i here.0 (search rules) here.3 w.push.new.self.items w.copy.result (subst (λ o. IsSomeAnd o (λ u. w.copy.result ≡ u)) here.2 w.copy.ensures) (test _ w.if-has_passed.true) i.invariant.passed w.in_ok-push.ensures.items (λ j. (w.passed-is j).items)
        | else-has_passed w ↦ put_left passed [] i.passed.items c.if-has_passed.passed.items us i.i here.0 (search rules) here.3 (test _ w.if-has_passed.false) i.invariant.passed (λ j. (w.passed-is j).items)
      ];
    }
