use Rattle.std.proofs.Common.{arith}
use Rattle.joined_times.proofs.AdditionLemmas.{appends_more, appends_all}
use Rattle.joined_times.proofs.times.push_joins.Goals as goal

pub loop-s-preserved : goal.loop-s-preserved
loop-s-preserved g c =
    appends_more g.T.PartialOrder.times c.args.t c.args.near.now c.args.fresh.now.items c.loop-s.s-index c.s-item.result c.join.result c.loop-s.fresh.items c.push_unless_last.new.times.items
    c.loop-s-test.true c.s-item.is c.join.ensures c.in_ok-push_unless_last.ensures.appended c.loop-s.invariant

pub returns-clause-appended : goal.returns-clause-appended
returns-clause-appended g c =
    appends_all g.T.PartialOrder.times c.args.t c.args.near.now c.args.fresh.now.items c.loop-s.s-index c.loop-s.fresh.items (omega arith) c.loop-s.invariant
