use Rattle.std.proofs.Common.{◌≡◌, ◌+◌, ◌||◌, drop, ap, sym, subst, ◌∙◌}
use Rattle.std.specs.Vec.{vec_items}
use Rattle.lattice.specs.Frontiers.{is_beyond}
use Rattle.batch.specs.Intervals.{open_updates}
use Rattle.operator.specs.Arrangements.{times_of}
use Rattle.operator.proofs.FrontLemmas.{open_loop, passed_loop}
use Rattle.operator.proofs.frontier.front_of_open.Goals as goal
use Rattle.operator.proofs.frontier.front_of_open.Goals.{then-is_beyond+in_ok-put_in, else-is_beyond}

pub loop-update-preserved : goal.loop-update-preserved
loop-update-preserved g c t =
    let times = g.T.PartialOrder.times in
    let upper = c.args.upper.now in
    let us = c.args.updates.now in
    let i = c.loop-update.update-index in
    let u = c.update-item.result in
    let whole = is_beyond times (times_of (open_updates times upper us)) t in
    let rest = is_beyond times (times_of (open_updates times upper (drop (i + 1) us))) t in
    let before = c.loop-update.invariant t in
    elim c.if-is_beyond.branch [
      | then-is_beyond+in_ok-put_in w ↦
          subst (λ F. (is_beyond times F t || rest) ≡ whole) (sym (ap vec_items w.front-is))
          (open_loop times upper c.loop-update.front.items w.put_in.new.front.items us i u t whole c.loop-update-test.true c.update-item.is (sym c.is_beyond.ensures ∙ w.if-is_beyond.true) (w.in_ok-put_in.ensures.beyond t) before)
      | else-is_beyond w ↦
          subst (λ F. (is_beyond times F t || rest) ≡ whole) (sym (ap vec_items w.front-is))
          (passed_loop times upper c.loop-update.front.items us i u t whole c.loop-update-test.true c.update-item.is (sym c.is_beyond.ensures ∙ w.if-is_beyond.false) before)
    ]
