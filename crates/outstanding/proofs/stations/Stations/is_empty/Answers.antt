use Rattle.std.proofs.Common.{◌∙◌}
use Rattle.outstanding.proofs.SurveyLemmas.{all_none, all_some}
use Rattle.outstanding.proofs.stations.Stations.is_empty.Goals as goal

pub returns-then-not-is_empty : goal.returns-then-not-is_empty
returns-then-not-is_empty g c =
    let i = c.loop-row in
    let items = c.deref-row-items in
    all_some items.result.now c.args.self.now (items.ensures.value ∙ c.self.view_is) i.row-index i.invariant c.row-item.result c.loop-row-test.true c.row-item.is c.is_empty.result c.is_empty.ensures c.if-not-is_empty.true

pub returns : goal.returns
returns g c =
    let i = c.loop-row in
    let items = c.deref-row-items in
    all_none items.result.now c.args.self.now (items.ensures.value ∙ c.self.view_is) i.row-index i.invariant c.loop-row-test.false
