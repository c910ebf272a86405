use Rattle.plan.proofs.ChangeLemmas.{differences_one, differences_go_on}
use Rattle.plan.proofs.differences.differences_are_one_list.Goals as goal

pub returns : goal.returns
returns g c =
    let order = g.met.T.PartialOrder.order in
    let total = g.met.T.Ord.total in
    record { one = differences_one order total; goes_on = differences_go_on order total }
