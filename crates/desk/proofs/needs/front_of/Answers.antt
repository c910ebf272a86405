use Rattle.std.proofs.Common.{◌≡◌, ◌+◌, sym, ◌∙◌}
use Rattle.std.proofs.lemmas.Bool.{ltb-true}
use Rattle.antichain.proofs.AntichainLemmas.{frontier_none}
use Rattle.desk.proofs.FrontLemmas.{front_none, front_read}
use Rattle.desk.proofs.needs.front_of.Goals as goal

pub returns-in-Some-clause-value : goal.returns-in-Some-clause-value
returns-in-Some-clause-value g c =
    let i = c.number.result + (c.number-2.result + c.args.port) in
    let same : i ≡ c.args.node + (c.args.node + c.args.port) = λ k. c.number.ensures k + (c.number-2.ensures k + c.args.port) in
    let found = c.in-Some.ensures.lookup in
    c.elements.ensures.value ∙ front_read c.args.fronts.now c.args.node c.args.port i same c.in-Some.front.now (ltb-true _ _ (sym found.0)) found.1

pub returns-in-None-clause-value : goal.returns-in-None-clause-value
returns-in-None-clause-value g c =
    let i = c.number.result + (c.number-2.result + c.args.port) in
    let same : i ≡ c.args.node + (c.args.node + c.args.port) = λ k. c.number.ensures k + (c.number-2.ensures k + c.args.port) in
    front_none c.args.fronts.now c.args.node c.args.port i same c.in-None.ensures.lookup.3

pub returns-in-None-clause-frontier : goal.returns-in-None-clause-frontier
returns-in-None-clause-frontier g c = frontier_none g.T.PartialOrder.times g.T.Ord.cmp
