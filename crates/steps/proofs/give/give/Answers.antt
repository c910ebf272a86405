use Rattle.std.proofs.Common.{rules, ◌≡◌, sym, subst, ap, ◌∙◌}
use Rattle.histories.specs.declared.event.Emission.{Emission}
use Rattle.histories.specs.Histories.Cuts.{cut}
use Rattle.histories.specs.Histories.{IsGive}
use Rattle.operator_laws.specs.GatheredUpdates.{IsCut}
use Rattle.shared_board.specs.Found.{dataflow_of}
use Rattle.shared_board.specs.Tenures.{state_left}
use Rattle.desk_laws.specs.Own.{IsHandOn}
use Rattle.steps.specs.Steps.{HasSent, IsPutDown, emission_of, gave_or_busy, output_of}
use Rattle.steps.specs.Workers.{IsRightOf}
use Rattle.steps.proofs.GivenLemmas.{busy_right, hand_may, sent_beyond, sent_right}
use Rattle.steps.proofs.OutputLemmas.{down_without, on_without}
use Rattle.steps.proofs.TenureLemmas.{seen_right}
use Rattle.steps.proofs.give.give.Goals as goal

pub send-answer-requires-clause-allowed : goal.send-answer-requires-clause-allowed
send-answer-requires-clause-allowed g c cuts =
    let made : emission_of c.args.node c.args.number c.in_ok-output.output ≡ emission_of c.args.node c.args.actor.now.number (output_of c.args.hand.now) = λ i. emission_of c.args.node (c.requires.number i) (c.in_ok-output.ensures.output i) in
    let times = g.T.PartialOrder.times in
    let old = c.args.actor.now in
    let p = dataflow_of old in
    let held = c.in_ok-held.held.items in
    subst (λ (e : Emission g.row.T.Denot). IsGive times p (state_left times old) e held (cut times p e)) (sym made)
    (hand_may times g.met.T.PartialOrder.order old c.known.ensures c.args.node c.args.desk.now c.args.hand.now c.requires.computed c.requires.node held (c.in_ok-held.ensures.held p (sym c.requires.plan))
    (subst (λ (e : Emission g.row.T.Denot). IsCut times p e (cut times p e)) made cuts) c.requires.right)

pub put_down-requires : goal.put_down-requires
put_down-requires g c =
    let on = subst (λ f. IsHandOn g.T.PartialOrder.times (dataflow_of c.args.actor.now) c.args.desk.now f) (sym c.in_ok-output.ensures.emptied) (on_without g.T.PartialOrder.times (dataflow_of c.args.actor.now) c.args.desk.now c.args.hand.now c.requires.right.own.on) in (search rules, (dataflow_of c.args.actor.now, on))

pub returns-in-Ok-true-clause-right : goal.returns-in-Ok-true-clause-right
returns-in-Ok-true-clause-right g c =
    let made : emission_of c.args.node c.args.number c.in_ok-output.output ≡ emission_of c.args.node c.args.actor.now.number (output_of c.args.hand.now) = λ i. emission_of c.args.node (c.requires.number i) (c.in_ok-output.ensures.output i) in
    let on = subst (λ f. IsHandOn g.T.PartialOrder.times (dataflow_of c.args.actor.now) c.args.desk.now f) (sym c.in_ok-output.ensures.emptied) (on_without g.T.PartialOrder.times (dataflow_of c.args.actor.now) c.args.desk.now c.args.hand.now c.requires.right.own.on) in
    let times = g.T.PartialOrder.times in
    let old = c.args.actor.now in
    let new = c.send-answer.new.actor in
    let p = dataflow_of old in
    let d = c.args.desk.now in
    let h = c.args.hand.now in
    let held = c.in_ok-held.held.items in
    let gave = c.in-Ok-true.field-0 in
    let down = down_without times p d h c.put_down.new.desk (subst (λ f. IsPutDown times p f d c.put_down.new.desk) c.in_ok-output.ensures.emptied (c.put_down.ensures.down p on)) in
    subst (λ f. IsRightOf times new c.put_down.new.desk f) (sym c.put_down.ensures.free)
    (sent_right times g.met.T.PartialOrder.order old c.known.ensures c.args.node d h c.requires.computed c.requires.node held (c.in_ok-held.ensures.held p (sym c.requires.plan)) new c.known-2.ensures
    (gave_or_busy gave) (ap gave_or_busy c.in-Ok-true.field-0-test) (subst (λ (e : Emission g.row.T.Denot). HasSent times old new e held (gave_or_busy gave)) made c.in-Ok-true.ensures.sent) c.put_down.new.desk down c.requires.right)

pub returns-in-Ok-true-clause-beyond : goal.returns-in-Ok-true-clause-beyond
returns-in-Ok-true-clause-beyond g c is passed =
    let made : emission_of c.args.node c.args.number c.in_ok-output.output ≡ emission_of c.args.node c.args.actor.now.number (output_of c.args.hand.now) = λ i. emission_of c.args.node (c.requires.number i) (c.in_ok-output.ensures.output i) in
    let times = g.T.PartialOrder.times in
    let old = c.args.actor.now in
    let new = c.send-answer.new.actor in
    let held = c.in_ok-held.held.items in
    let gave = c.in-Ok-true.field-0 in
    sent_beyond times g.met.T.PartialOrder.order old c.known.ensures c.args.node c.args.desk.now c.args.hand.now c.requires.computed c.requires.node held (c.in_ok-held.ensures.held (dataflow_of old) (sym c.requires.plan)) new c.known-2.ensures
    (gave_or_busy gave) (subst (λ (e : Emission g.row.T.Denot). HasSent times old new e held (gave_or_busy gave)) made c.in-Ok-true.ensures.sent) c.requires.right (ap gave_or_busy c.in-Ok-true.field-0-test) passed

pub returns-in-Ok-false-clause-right : goal.returns-in-Ok-false-clause-right
returns-in-Ok-false-clause-right g c =
    let times = g.T.PartialOrder.times in
    let h = c.args.hand.now in
    let back = c.put_back.ensures h c.in_ok-output.ensures.emptied (c.in-Ok-false.ensures.kept c.in-Ok-false.field-0-test ∙ c.in_ok-output.ensures.output) in
    subst (λ f. IsRightOf times c.send-answer.new.actor c.args.desk.now f) (sym back)
    (busy_right times c.args.actor.now c.send-answer.new.actor c.args.desk.now h c.in-Ok-false.field-0 c.in-Ok-false.field-0-test _ _ c.in-Ok-false.ensures.sent c.requires.right)

pub returns-in-Err-clause-right : goal.returns-in-Err-clause-right
returns-in-Err-clause-right g c =
    let times = g.T.PartialOrder.times in
    let h = c.args.hand.now in
    let back = c.put_back-in-Err.ensures h c.in_ok-output.ensures.emptied (c.in-Err.ensures.same ∙ c.in_ok-output.ensures.output) in
    subst (λ f. IsRightOf times c.send-answer.new.actor c.args.desk.now f) (sym back)
    (seen_right times g.met.T.PartialOrder.order c.args.actor.now c.send-answer.new.actor c.known-2.ensures c.in-Err.ensures.refused.1 c.args.desk.now h c.requires.right)
