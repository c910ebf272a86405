use Rattle.std.proofs.Common.{◌≡◌, ◌<◌, ◌∙◌, length, slice_index_or, sym, cond, arith}
use Rattle.std.specs.Prelude.{pos, ◌+ℤ◌}
use Rattle.update.specs.Bags.{count_of, same_row}
use Rattle.oracle.proofs.ListingLemmas.{off_more, off_same}
use Rattle.oracle.proofs.listing.put_listed.Goals as goal

pub loop-update-preserved : goal.loop-update-preserved
loop-update-preserved g c =
    let times = g.T.PartialOrder.times in
    let t = c.args.t in
    let us = c.args.listed.now in
    let i = c.loop-update.update-index in
    let d = c.update-item.result in
    let old = c.args.entries.now in
    let mid = c.loop-update.entries in
    let inside : i < length us = omega arith in
    let tested : c.less_equal.result ≡ times.below (slice_index_or us i d).time t = c.less_equal.ensures ∙ (λ j. times.below (c.update-item.is j).time t) in
    elim c.if-less_equal.branch [
      | goal.then-less_equal+in_ok-put_off w ↦
          rw w.entries-is (off_more times t old mid w.put_off.new.entries us i d inside (sym tested ∙ w.if-less_equal.true) c.loop-update.invariant
          (λ r. (λ j. count_of w.put_off.new.entries r +ℤ cond (same_row (sym c.update-item.is j).row r) (sym c.update-item.is j).diff (pos 0)) ∙ w.in_ok-put_off.ensures.counts r))
      | goal.else-less_equal w ↦ rw w.entries-is (off_same times t old mid us i d inside (sym tested ∙ w.if-less_equal.false) c.loop-update.invariant)
    ]
