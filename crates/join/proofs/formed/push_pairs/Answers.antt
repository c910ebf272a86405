use Rattle.std.proofs.lemmas.Result.{err_from_is_err_and}
use Rattle.join.specs.FormedPairs.{formed_pair}
use Rattle.join.proofs.FormedLemmas.{item_at}
use Rattle.join.proofs.RunLemmas.{item_large, item_stands}
use Rattle.join.proofs.LargeLemmas.{refused_more}
use Rattle.join.proofs.formed.push_pairs.Goals as goal

pub returns-in_err-push_pair-clause-refused : goal.returns-in_err-push_pair-clause-refused
returns-in_err-push_pair-clause-refused g c =
    let vs = c.args.inner.now in
    let v = c.v-item.result in
    let p = err_from_is_err_and c.from_residual.result c.from_residual.ensures.1 in
    let here = item_at vs c.loop-v.v-index v c.loop-v-test.true c.v-item.is in
    let large = item_large (formed_pair c.args.side g.T.PartialOrder.times c.args.k c.args.u.now) vs c.loop-v.v-index v here in
    rw (p.1, p.2) (refused_more _ _ c.in_err-push_pair.field-0.0 large c.in_err-push_pair.ensures.refused)

pub loop-v-preserved : goal.loop-v-preserved
loop-v-preserved g c =
    let vs = c.args.inner.now in
    let v = c.v-item.result in
    let here = item_at vs c.loop-v.v-index v c.loop-v-test.true c.v-item.is in
    item_stands (formed_pair c.args.side g.T.PartialOrder.times c.args.k c.args.u.now) vs c.loop-v.v-index v here _ _ _ c.loop-v-test.true c.loop-v.invariant c.in_ok-push_pair.ensures.stands
