use Rattle.std.proofs.Common.{rules, ◌∙◌, ap, sym}
use Rattle.std.specs.List.{slice_get}
use Rattle.desk.proofs.ResultLemmas.{on_ok_both}
use Rattle.desk.proofs.SettleLemmas.{has_moved, may_advance}
use Rattle.desk.proofs.upkeep.move_hold.Goals as goal

pub advance-requires : goal.advance-requires
advance-requires g c =
    let may = may_advance g.T.PartialOrder.times g.met.T.PartialOrder.order c.args.arrangement.now c.args.number c.args.logical.now c.args.boundary.now c.in_ok-logical.logical c.in_ok-boundary.boundary c.in_ok-logical.ensures.is c.in_ok-boundary.ensures.is c.trace-spine.ensures.known c.requires.may in
    (search rules, (may.0, (may.1, (may.2, (may.3, may.4)))))

pub returns-clause-moved : goal.returns-clause-moved
returns-clause-moved g c =
    let to = c.advance.ensures in
    let r = c.requires.may.reading in
    let held = ap (slice_get c.args.arrangement.now.holds) (sym c.requires.may.is) ∙ r.held in
    on_ok_both c.advance.result (λ moved whole. has_moved g.T.PartialOrder.times c.args.arrangement.now c.advance.new.self c.args.number c.in_ok-logical.logical c.in_ok-boundary.boundary moved c.args.logical.now c.args.boundary.now c.in_ok-logical.ensures.is c.in_ok-boundary.ensures.is r.hold held to.stands whole) to.moved to.open
