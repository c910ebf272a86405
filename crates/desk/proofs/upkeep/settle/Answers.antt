use Rattle.std.proofs.Common.{rules}
use Rattle.desk.proofs.ResultLemmas.{on_ok_always}
use Rattle.desk.proofs.SettleLemmas.{is_settled, own_settled}
use Rattle.desk.proofs.upkeep.settle.Goals as goal

pub acknowledge-requires : goal.acknowledge-requires
acknowledge-requires g c = (search rules, (c.trace-spine.ensures.known.own, (c.requires.may, c.in_ok-upper.ensures.is)))

pub returns-clause-settled : goal.returns-clause-settled
returns-clause-settled g c =
    let to = c.in_ok-acknowledge.ensures in
    let merged = c.merge.ensures in
    is_settled g.T.PartialOrder.times c.args.arrangement.now c.acknowledge.new.self c.merge.new.self c.args.level.now to.moved merged.kept merged.upper c.trace-spine.ensures.known.own to.stands to.open merged.stands merged.open

pub returns-clause-own : goal.returns-clause-own
returns-clause-own g c =
    let to = c.in_ok-acknowledge.ensures in
    let merged = c.merge.ensures in
    on_ok_always c.merge.result (own_settled g.T.PartialOrder.times c.args.arrangement.now c.acknowledge.new.self c.merge.new.self c.args.level.now to.moved merged.kept merged.upper c.trace-spine.ensures.known.own)
