use Rattle.std.proofs.Common.{map, rules}
use Rattle.update.specs.Updates.{entry}
use Rattle.views.proofs.CapturedLemmas.{sums_more}
use Rattle.views.proofs.last_read.push_arrived.Goals as goal

pub loop-position-preserved : goal.loop-position-preserved
loop-position-preserved g c =
    let i = c.loop-position in
    sums_more g.T.PartialOrder.times c.args.t.now c.args.captured.now c.args.part.start i.position (map entry c.args.arrived.now.items) (map entry i.arrived.items) (map entry c.push_if_arrived.new.arrived.items) (search rules) (search rules) i.invariant c.in_ok-run.ensures.more
