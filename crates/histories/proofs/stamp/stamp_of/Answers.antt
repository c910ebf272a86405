use Rattle.std.proofs.Common.{[], add-one, rules}
use Rattle.histories.specs.Histories.States.{update_times}
use Rattle.histories.specs.Histories.Outstanding.{with_times}
use Rattle.histories.proofs.HistoryLemmas.StampLemmas.{stamp_next}
use Rattle.histories.proofs.stamp.stamp_of.Goals as goal

pub loop-i-preserved : goal.loop-i-preserved
loop-i-preserved g c =
    let i = c.loop-i in
    rw add-one (stamp_next g.T.PartialOrder.times c.args.updates.now i.i c.time.result i.stamp.items c.insert.new.front.items (with_times g.T.PartialOrder.times [] (update_times c.args.updates.now)) (search rules) c.time.ensures c.in_ok-insert.ensures.with i.invariant)
