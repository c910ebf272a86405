use Rattle.std.proofs.Common.{subst}
use Rattle.progress.specs.Kept.{AreFronts}
use Rattle.progress.proofs.kept.Kept.answer.Goals as goal

pub returns-clause-current : goal.returns-clause-current
returns-clause-current g c e =
    let f = subst (λ n. AreFronts g.T.PartialOrder.times c.args.graph.now c.args.items.now n c.find_all.new.self) c.node.ensures c.in_ok-find_all.ensures.fronts in
    record { output = f.output; input = f.input; first = f.first; second = f.second }
