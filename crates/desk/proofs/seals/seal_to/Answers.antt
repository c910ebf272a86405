use Rattle.std.proofs.Common.{ap, sym, subst, IsTrue, rules, refl, ◌≤◌, ◌^◌}
use Rattle.std.proofs.lemmas.Result.{err_from_is_err_and}
use Rattle.batch.specs.Intervals.{is_interval_of, passed_updates}
use Rattle.update.specs.Refusals.{IsMemoryOrOverflow}
use Rattle.update.specs.Updates.{size}
use Rattle.batch.specs.Descriptions.{DescriptionState}
use Rattle.operator.specs.Arrangements.{ArrangementState, upper_of}
use Rattle.desk.proofs.ResultLemmas.{if_err_at, memory_or, on_err_always}
use Rattle.desk.proofs.SealLemmas.{large_waiting, not_reserved, reserved_by, sealed_by}
use Rattle.desk.proofs.seals.seal_to.Goals as goal

pub seal-requires : goal.seal-requires
seal-requires g c = (
  search rules,
  subst (λ (x : ArrangementState g.row.T.Denot). IsTrue (is_interval_of g.T.PartialOrder.times (upper_of x.spine) c.in_ok-upper.upper (passed_updates g.T.PartialOrder.times c.in_ok-upper.upper x.waiting))) (sym c.in_ok-reserve.ensures.room)
      (c.requires c.in_ok-upper.upper c.in_ok-upper.ensures.beyond),
)

pub returns-in_err-upper-clause-kept : goal.returns-in_err-upper-clause-kept
returns-in_err-upper-clause-kept g c = on_err_always c.from_residual.result (not_reserved g.T.PartialOrder.times c.args.arrangement.now c.args.arrangement.now refl)

pub returns-in_err-reserve-clause-kept : goal.returns-in_err-reserve-clause-kept
returns-in_err-reserve-clause-kept g c = on_err_always c.from_residual-in_err-reserve.result (not_reserved g.T.PartialOrder.times c.args.arrangement.now c.reserve.new.self c.in_err-reserve.ensures.same)

pub returns-in_err-batch-clause-kept : goal.returns-in_err-batch-clause-kept
returns-in_err-batch-clause-kept g c =
    on_err_always c.from_residual-in_err-batch.result
    (reserved_by g.T.PartialOrder.times c.args.arrangement.now c.reserve.new.self c.in_ok-reserve.ensures.room c.in_ok-reserve.ensures.stands c.in_ok-reserve.ensures.«open» c.seal.new.self c.in_err-batch.ensures.same)

pub returns-clause-sealed : goal.returns-clause-sealed
returns-clause-sealed g c =
    let sealed = c.in_ok-batch.ensures in
    sealed_by g.T.PartialOrder.times c.args.arrangement.now c.reserve.new.self c.in_ok-reserve.ensures.room c.in_ok-reserve.ensures.stands c.in_ok-reserve.ensures.«open» c.seal.new.self c.in_ok-batch.batch
    c.in_ok-upper.upper c.args.upper.now c.in_ok-upper.ensures.beyond sealed.rest (ap (λ (x : DescriptionState g.row.T.Denot). x.upper) sealed.described) sealed.continues
    (record { sealed = sealed.sealed; totals = sealed.totals; smaller = sealed.size }) sealed.between sealed.rows sealed.times

pub returns-in_err-batch-clause-refused : goal.returns-in_err-batch-clause-refused
returns-in_err-batch-clause-refused g c =
    let p = err_from_is_err_and c.from_residual-in_err-batch.result c.from_residual-in_err-batch.ensures.1 in
    if_err_at c.from_residual-in_err-batch.result (IsMemoryOrOverflow (2 ^ 63 ≤ size c.args.arrangement.now.waiting)) c.in_err-batch.field-0.0 p.0 p.1 (cc p.2)
    (memory_or (λ large. subst (λ (x : ArrangementState g.row.T.Denot). 2 ^ 63 ≤ size x.waiting) c.in_ok-reserve.ensures.room (large_waiting g.T.PartialOrder.times c.in_ok-upper.upper c.reserve.new.self.waiting large)) c.in_err-batch.ensures.refused)
