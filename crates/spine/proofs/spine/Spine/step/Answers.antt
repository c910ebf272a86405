use Rattle.std.proofs.Common.{◌+◌, refl, arith}
use Rattle.std.proofs.lemmas.Result.{err_from_is_err_and}
use Rattle.spine.proofs.MergeLemmas.{nothing_worked, more_worked, more_worked_on}
use Rattle.spine.proofs.spine.Spine.step.Goals as goal

pub returns-then-fuel-eq0-clause-worked : goal.returns-then-fuel-eq0-clause-worked
returns-then-fuel-eq0-clause-worked g c = (0, nothing_worked g.T.PartialOrder.times g.met.T.PartialOrder.order c.args.self.now, refl)

pub returns-then-not-branch-clause-worked : goal.returns-then-not-branch-clause-worked
returns-then-not-branch-clause-worked g c =
    (0, more_worked_on g.T.PartialOrder.times 0 0 c.args.self.now c.give_up_barred.new.self c.begin_next.new.self c.give_up_barred.ensures.worked c.in_ok-begin_next.ensures.worked, refl)

pub returns-in_err-left-clause-gone : goal.returns-in_err-left-clause-gone
returns-in_err-left-clause-gone g c =
    let times = g.T.PartialOrder.times in
    let p = err_from_is_err_and c.from_residual-in_err-left.result c.from_residual-in_err-left.ensures.1 in
    let ready = more_worked_on times 0 0 c.args.self.now c.give_up_barred.new.self c.begin_next.new.self c.give_up_barred.ensures.worked c.in_ok-begin_next.ensures.worked in
    let last = c.in_err-left.ensures.gone in
    rw p.1 (ready.lost + last.0, more_worked times 0 0 ready.lost last.0 c.args.self.now c.begin_next.new.self c.go_on.new.self ready.worked last.1)

pub returns-clause-worked : goal.returns-clause-worked
returns-clause-worked g c =
    let times = g.T.PartialOrder.times in
    let ready = more_worked_on times 0 0 c.args.self.now c.give_up_barred.new.self c.begin_next.new.self c.give_up_barred.ensures.worked c.in_ok-begin_next.ensures.worked in
    let w = c.in_ok-left.ensures.worked in
    (0 + w.0, more_worked_on times 0 w.0 c.args.self.now c.begin_next.new.self c.go_on.new.self ready w.3, (omega (arith, w.1, w.2), omega (arith, w.2)))
