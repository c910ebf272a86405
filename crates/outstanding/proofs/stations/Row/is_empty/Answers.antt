use Rattle.std.proofs.Common.{◌∙◌}
use Rattle.outstanding.proofs.SurveyLemmas.{row_none, row_some}
use Rattle.outstanding.proofs.stations.Row.is_empty.Goals as goal

pub returns-then-not-is_empty : goal.returns-then-not-is_empty
returns-then-not-is_empty g c =
    let i = c.loop-station in
    let items = c.deref-station-items in
    row_some items.result.now c.args.self.now (items.ensures.value ∙ c.self.view_is) i.station-index i.invariant c.station-item.result c.loop-station-test.true c.station-item.is c.is_empty.result c.is_empty.ensures c.if-not-is_empty.true

pub returns : goal.returns
returns g c =
    let i = c.loop-station in
    let items = c.deref-station-items in
    row_none items.result.now c.args.self.now (items.ensures.value ∙ c.self.view_is) i.station-index i.invariant c.loop-station-test.false
