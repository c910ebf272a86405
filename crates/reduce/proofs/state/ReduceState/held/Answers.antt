use Rattle.std.proofs.Common.{ap, subst}
use Rattle.reduce.specs.Histories.{AreKeysApart, IsWaiting}
use Rattle.reduce.proofs.HeldLemmas.{within, held_more, held_all}
use Rattle.reduce.proofs.state.ReduceState.held.Goals as goal

pub get-requires : goal.get-requires
get-requires g c =
    rw c.as_slice-place-items.ensures (within g.T.PartialOrder.times c.self.inside.histories.items c.self.inside.waiting.items c.self.invariant.3 c.loop-place.place-index (rw c.as_slice-place-items.ensures at c.loop-place-test.true))

pub loop-place-preserved : goal.loop-place-preserved
loop-place-preserved g c =
    let hist = ap (λ s. s.histories) c.self.view_is in
    let wait = ap (λ s. s.waiting) c.self.view_is in
    let lt = rw (c.as_slice-place-items.ensures, wait) at c.loop-place-test.true in
    let there = rw (c.as_slice-place-items.ensures, wait, hist) at c.get.ensures in
    held_more g.T.PartialOrder.times c.args.self.now.histories c.args.self.now.waiting c.loop-place.place-index lt c.get.result.now c.due.result.now c.loop-place.held c.insert_all.new.held there c.due.ensures c.loop-place.invariant c.in_ok-insert_all.ensures.beyond

pub returns-clause-beyond : goal.returns-clause-beyond
returns-clause-beyond g c =
    let hist = ap (λ s. s.histories) c.self.view_is in
    let wait = ap (λ s. s.waiting) c.self.view_is in
    let end = rw (c.as_slice-place-items.ensures, wait) at c.loop-place-test.false in
    held_all g.T.PartialOrder.times c.args.self.now.histories (subst AreKeysApart hist c.known.ensures) c.args.self.now.waiting
    (subst (λ z. IsWaiting z c.args.self.now.waiting) hist (subst (IsWaiting c.self.inside.histories.items) wait c.self.invariant.3))
    c.loop-place.place-index end c.loop-place.held c.loop-place.invariant
