use Rattle.std.proofs.Common.{◌≡◌, ◌∙◌, ◌∷◌, ◌++◌, [], Some, map, length, ap, sym, subst}
use Rattle.std.proofs.lemmas.Result.{on_ok_weaker}
use Rattle.plan.specs.Nodes.{node_at}
use Rattle.oracle.specs.Evaluation.{AreBags, nth_bag, passed_on, sums_at}
use Rattle.oracle.proofs.EvaluationLemmas.{are_more, are_shared}
use Rattle.oracle.proofs.evaluation.put_next.Goals as goal

pub returns-in-Some-clause-bags : goal.returns-in-Some-clause-bags
returns-in-Some-clause-bags g c =
    let p = c.args.plan.now in
    let bags = c.args.bags.now in
    let inputs = sums_at g.T.PartialOrder.times p (map (λ v. v.items) c.args.changes.now) c.args.t in
    let source = c.in-Some.source in
    let here = c.new.ensures ∙ c.len.ensures in
    let passes : passed_on (node_at p (length bags)) ≡ Some source =
    ap (λ n. passed_on (node_at p n)) (sym here) ∙ (ap passed_on (sym c.node.ensures) ∙ (sym c.passed_on.ensures ∙ c.in-Some.is)) in
    let shared = are_shared p c.known.ensures.plan inputs c.args.view bags c.requires.bags source passes in
    on_ok_weaker c.share.result
    (λ more. subst (AreBags p inputs c.args.view) (sym (more ∙ ap (λ n. bags ++ nth_bag bags n ∷ []) c.number.ensures)) shared)
    c.share.ensures.more

pub returns-in_ok-bag-in-None-clause-bags : goal.returns-in_ok-bag-in-None-clause-bags
returns-in_ok-bag-in-None-clause-bags g c =
    let p = c.args.plan.now in
    let bags = c.args.bags.now in
    let inputs = sums_at g.T.PartialOrder.times p (map (λ v. v.items) c.args.changes.now) c.args.t in
    let next = are_more p inputs c.args.view bags c.in_ok-bag-in-None.bag c.requires.bags c.in_ok-bag-in-None.ensures.wide c.in_ok-bag-in-None.ensures.query in
    on_ok_weaker c.push.result
    (λ more. subst (AreBags p inputs c.args.view) (sym more) next)
    c.push.ensures.more
