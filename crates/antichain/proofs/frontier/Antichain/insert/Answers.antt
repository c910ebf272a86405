use Rattle.std.proofs.Common.{◌≡◌, ◌≤◌, false, true, not, length, sym, ◌∙◌, subst, arith}
use Rattle.std.proofs.lemmas.Result.{err_from_is_err_and}
use Rattle.lattice.specs.Frontiers.{is_beyond}
use Rattle.antichain.specs.Antichains.{IsFrontier}
use Rattle.antichain.specs.Insertion.{not_above}
use Rattle.antichain.proofs.Lists.{filter_shorter}
use Rattle.antichain.proofs.InsertionLemmas.{frontier_inserted, beyond_inserted, beyond_already, least_inserted, least_already, length_placed, apart_from_rest}
use Rattle.antichain.proofs.frontier.Antichain.insert.Goals as goal

pub returns-then-less_equal-clause-least : goal.returns-then-less_equal-clause-least
returns-then-less_equal-clause-least g c =
    let old = c.args.self.now in
    let beyond : is_beyond g.T.PartialOrder.times old c.args.t ≡ true = sym c.less_equal.ensures ∙ c.if-less_equal.true in
    least_already g.met.T.PartialOrder.order c.args.t old beyond (subst (IsFrontier g.T.PartialOrder.times g.T.Ord.cmp) c.self.view_is c.self.invariant.0)

pub returns-then-less_equal-clause-beyond : goal.returns-then-less_equal-clause-beyond
returns-then-less_equal-clause-beyond g c s =
    let beyond : is_beyond g.T.PartialOrder.times c.args.self.now c.args.t ≡ true = sym c.less_equal.ensures ∙ c.if-less_equal.true in
    beyond_already g.met.T.PartialOrder.order c.args.t s c.args.self.now beyond

pub returns-in_err-insert_new-clause-full : goal.returns-in_err-insert_new-clause-full
returns-in_err-insert_new-clause-full g c =
    let times = g.T.PartialOrder.times in
    let t = c.args.t in
    let passed : is_beyond times c.args.self.now t ≡ false = sym c.less_equal.ensures ∙ c.if-less_equal.false in
    let none = rw c.self.view_is at c.in_err-insert_new.ensures.none_above in
    let apart = rw none at (apart_from_rest times t c.args.self.now passed) in
    let full : c.self.inside.elements.capacity ≤ length c.self.inside.elements.items = c.in_err-insert_new.ensures.full in
    let four : 4 ≤ length c.self.inside.elements.items = omega (arith, c.self.invariant.1, full) in
    let p = err_from_is_err_and c.from_residual.result c.from_residual.ensures.1 in
    rw p.1 (rw c.self.view_is at four, apart)

pub invariant_of-self-2 : goal.invariant_of-self-2
invariant_of-self-2 g c =
    let passed : is_beyond g.T.PartialOrder.times c.args.self.now c.args.t ≡ false = sym c.less_equal.ensures ∙ c.if-less_equal.false in
    let items = rw c.self.view_is at c.in_ok-insert_new.ensures.ok in
    let old = subst (IsFrontier g.T.PartialOrder.times g.T.Ord.cmp) c.self.view_is c.self.invariant.0 in
    let kept = frontier_inserted g.met.T.PartialOrder.order g.met.T.Ord.total g.met.T.Lattice.extends c.args.t c.args.self.now passed old in
    let room : 4 ≤ c.insert_new.new.elements.capacity = omega (arith, c.self.invariant.1, c.insert_new.ensures.capacity) in
    (rw items kept, room)

pub returns-clause-frontier : goal.returns-clause-frontier
returns-clause-frontier g c =
    let passed : is_beyond g.T.PartialOrder.times c.args.self.now c.args.t ≡ false = sym c.less_equal.ensures ∙ c.if-less_equal.false in
    let items = rw c.self.view_is at c.in_ok-insert_new.ensures.ok in
    let old = subst (IsFrontier g.T.PartialOrder.times g.T.Ord.cmp) c.self.view_is c.self.invariant.0 in
    rw items (frontier_inserted g.met.T.PartialOrder.order g.met.T.Ord.total g.met.T.Lattice.extends c.args.t c.args.self.now passed old)

pub returns-clause-least : goal.returns-clause-least
returns-clause-least g c =
    let passed : is_beyond g.T.PartialOrder.times c.args.self.now c.args.t ≡ false = sym c.less_equal.ensures ∙ c.if-less_equal.false in
    let items = rw c.self.view_is at c.in_ok-insert_new.ensures.ok in
    let old = subst (IsFrontier g.T.PartialOrder.times g.T.Ord.cmp) c.self.view_is c.self.invariant.0 in
    rw items (least_inserted g.met.T.PartialOrder.order g.met.T.Ord.total g.met.T.Lattice.extends c.args.t c.args.self.now passed old)

pub returns-clause-beyond : goal.returns-clause-beyond
returns-clause-beyond g c s =
    let items = rw c.self.view_is at c.in_ok-insert_new.ensures.ok in
    rw items (beyond_inserted g.met.T.PartialOrder.order g.T.Ord.cmp c.args.t s c.args.self.now)

pub returns-clause-len : goal.returns-clause-len
returns-clause-len g c =
    let times = g.T.PartialOrder.times in
    let items = rw c.self.view_is at c.in_ok-insert_new.ensures.ok in
    let one_more = length_placed g.T.Ord.cmp c.args.t (not_above times c.args.t c.args.self.now) in
    let shorter = filter_shorter (λ e. not (times.below c.args.t e)) c.args.self.now in
    rw items (omega (arith, one_more, shorter))
