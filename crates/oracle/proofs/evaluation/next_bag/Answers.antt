use Rattle.std.proofs.Common.{◌≡◌, ◌∙◌, true, List, map, length, ap, sym, subst}
use Rattle.std.specs.Prelude.{IfOk}
use Rattle.update.specs.Bags.{Entry, Alike}
use Rattle.update.specs.Updates.{as_of}
use Rattle.plan.specs.Ancestors.{reaches}
use Rattle.plan.specs.Widths.{width_of}
use Rattle.oracle.specs.Evaluation.{sums_at}
use Rattle.oracle.proofs.EvaluationLemmas.{query_ok, wide_ok, large_err, empty_wide, inputs_wide}
use Rattle.oracle.proofs.evaluation.next_bag.Goals as goal

pub returns-then-not-reaches-clause-wide : goal.returns-then-not-reaches-clause-wide
returns-then-not-reaches-clause-wide g c = empty_wide (width_of c.args.plan.now (length c.args.bags.now)) c.into_bag.result c.into_bag.ensures.bag (subst (λ (es : List Entry). IfOk c.into_bag.result (λ bag. Alike bag es)) c.new.ensures c.into_bag.ensures.sum)

pub returns-clause-wide : goal.returns-clause-wide
returns-clause-wide g c =
    let p = c.args.plan.now in
    let bags = c.args.bags.now in
    let times = g.T.PartialOrder.times in
    let outside = as_of g.T.PartialOrder.times c.args.t c.list_of.result.now in
    let inputs = sums_at g.T.PartialOrder.times c.args.plan.now (map (λ v. v.items) c.args.changes.now) c.args.t in
    let own : as_of g.T.PartialOrder.times c.args.t c.list_of.result.now ≡ sums_at g.T.PartialOrder.times c.args.plan.now (map (λ v. v.items) c.args.changes.now) c.args.t (length c.args.bags.now) = ap (as_of g.T.PartialOrder.times c.args.t) c.list_of.ensures ∙ ap inputs (c.new-id.ensures ∙ c.len.ensures) in
    wide_ok p c.known.ensures.plan inputs c.args.view bags c.requires.bags c.new-id.result (c.new-id.ensures ∙ c.len.ensures) outside own c.of_node.result
    c.requires.next (inputs_wide times p (map (λ v. v.items) c.args.changes.now) c.args.t (length bags) c.requires.lists c.requires.next) c.of_node.ensures.bag c.of_node.ensures.given

pub returns-clause-query : goal.returns-clause-query
returns-clause-query g c =
    let p = c.args.plan.now in
    let bags = c.args.bags.now in
    let outside = as_of g.T.PartialOrder.times c.args.t c.list_of.result.now in
    let inputs = sums_at g.T.PartialOrder.times c.args.plan.now (map (λ v. v.items) c.args.changes.now) c.args.t in
    let own : as_of g.T.PartialOrder.times c.args.t c.list_of.result.now ≡ sums_at g.T.PartialOrder.times c.args.plan.now (map (λ v. v.items) c.args.changes.now) c.args.t (length c.args.bags.now) = ap (as_of g.T.PartialOrder.times c.args.t) c.list_of.ensures ∙ ap inputs (c.new-id.ensures ∙ c.len.ensures) in
    query_ok p c.known.ensures.plan inputs c.args.view bags c.requires.bags c.new-id.result (c.new-id.ensures ∙ c.len.ensures) outside own c.of_node.result c.of_node.ensures.given

pub returns-clause-refused : goal.returns-clause-refused
returns-clause-refused g c =
    let p = c.args.plan.now in
    let bags = c.args.bags.now in
    let outside = as_of g.T.PartialOrder.times c.args.t c.list_of.result.now in
    let inputs = sums_at g.T.PartialOrder.times c.args.plan.now (map (λ v. v.items) c.args.changes.now) c.args.t in
    let own : as_of g.T.PartialOrder.times c.args.t c.list_of.result.now ≡ sums_at g.T.PartialOrder.times c.args.plan.now (map (λ v. v.items) c.args.changes.now) c.args.t (length c.args.bags.now) = ap (as_of g.T.PartialOrder.times c.args.t) c.list_of.ensures ∙ ap inputs (c.new-id.ensures ∙ c.len.ensures) in
    let above : reaches c.args.plan.now (length c.args.bags.now) c.args.view ≡ true = ap (λ n. reaches c.args.plan.now n c.args.view) (sym (c.new-id.ensures ∙ c.len.ensures)) ∙ (sym c.reaches.ensures ∙ c.if-not-reaches.false) in
    large_err p c.known.ensures.plan inputs c.args.view bags c.requires.bags c.new-id.result (c.new-id.ensures ∙ c.len.ensures) outside own c.of_node.result above c.of_node.ensures.refused
