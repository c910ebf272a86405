use Rattle.desk.proofs.OpenLemmas.{new_first}
use Rattle.desk.proofs.fresh.first_arrangement.Goals as goal

pub returns-clause-first : goal.returns-clause-first
returns-clause-first g c =
    new_first g.T.PartialOrder.times c.args.plan.now c.args.worker c.number.result c.args.node c.width.result c.in_ok-made.made c.width.ensures.width c.in_ok-made.ensures.begun
