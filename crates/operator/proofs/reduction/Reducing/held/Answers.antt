use Rattle.std.proofs.Common.{◌<◌, length, get_or, sym, ap, subst}
use Rattle.reduce.specs.Histories.{IsWaiting}
use Rattle.reduce.proofs.HeldLemmas.{within, held_more}
use Rattle.operator.proofs.ReductionLemmas.{held_covers, held_tight}
use Rattle.operator.proofs.reduction.Reducing.held.Goals as goal

pub history-requires : goal.history-requires
history-requires g c =
    let place = c.loop-place.place-index in
    let hs = c.self.inside.state.histories in
    let value = c.waiting-place-items.ensures.value in
    subst (λ ps. get_or ps place 0 < length hs) (sym value)
    (within g.T.PartialOrder.times hs c.self.inside.state.waiting c.waiting-place-items.ensures.exact place (subst (λ ps. place < length ps) value c.loop-place-test.true))

pub loop-place-preserved : goal.loop-place-preserved
loop-place-preserved g c =
    let hist = ap (λ v. v.state.histories) c.self.view_is in
    let wait = ap (λ v. v.state.waiting) c.self.view_is in
    let lt = rw (c.waiting-place-items.ensures.value, wait) at c.loop-place-test.true in
    let there = rw (c.waiting-place-items.ensures.value, wait, hist) at c.history.ensures.value in
    held_more g.T.PartialOrder.times c.args.self.now.state.histories c.args.self.now.state.waiting c.loop-place.place-index lt c.history.result.now c.due.result.now c.loop-place.held.items c.put_in_all.new.front.items there c.due.ensures c.loop-place.invariant c.in_ok-put_in_all.ensures.beyond

pub returns-clause-covers : goal.returns-clause-covers
returns-clause-covers g c =
    let end = rw (c.waiting-place-items.ensures.value, ap (λ v. v.state.waiting) c.self.view_is) at c.loop-place-test.false in
    held_covers g.met.T.PartialOrder.order c.args.self.now.state.histories c.args.self.now.state.waiting (subst (λ v. IsWaiting v.state.histories v.state.waiting) c.self.view_is c.waiting-place-items.ensures.exact)
    c.loop-place.place-index end c.loop-place.held.items c.loop-place.invariant

pub returns-clause-tight : goal.returns-clause-tight
returns-clause-tight g c =
    let end = rw (c.waiting-place-items.ensures.value, ap (λ v. v.state.waiting) c.self.view_is) at c.loop-place-test.false in
    held_tight g.met.T.PartialOrder.order c.args.self.now.state.histories c.args.self.now.state.waiting (subst (λ v. IsWaiting v.state.histories v.state.waiting) c.self.view_is c.waiting-place-items.ensures.exact)
    c.loop-place.place-index end c.loop-place.held.items c.loop-place.invariant
