use Rattle.views.proofs.CapturedLemmas.{later_found}
use Rattle.views.proofs.last_read.is_later_at.Goals as goal

pub returns : goal.returns
returns g c =
    later_found g.T.PartialOrder.times c.args.t.now c.args.captured.now c.args.position c.requires c.time.result c.time.ensures c.less_equal.result c.less_equal.ensures
