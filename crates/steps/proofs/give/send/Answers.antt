use Rattle.std.proofs.Common.{IsTrue, sym, subst}
use Rattle.plan.specs.Widths.{width_of}
use Rattle.linear.specs.Widths.{are_wide}
use Rattle.histories.specs.Histories.Dataflows.{Dataflow}
use Rattle.shared_board.specs.Found.{dataflow_of}
use Rattle.shared_board.specs.Widths.{are_wide_for}
use Rattle.steps.proofs.SentLemmas.{sent_wide}
use Rattle.steps.specs.Steps.{emission_of}
use Rattle.steps.proofs.give.send.Goals as goal

pub try_give-requires-clause-wide : goal.try_give-requires-clause-wide
try_give-requires-clause-wide g c =
    let made = c.in-Ok.cut in
    let wide = subst (λ us. IsTrue (are_wide (width_of (dataflow_of c.args.actor.now).nodes c.args.node) us)) (sym c.replace.ensures.value) c.requires.wide in
    subst (λ (p : Dataflow). IsTrue (are_wide_for p made.sent)) c.requires.routing
    (sent_wide c.args.routing.now (emission_of c.args.node c.args.worker c.replace.result) made.sent c.in-Ok.ensures.whole c.in-Ok.ensures.filled
    (subst (λ (p : Dataflow). IsTrue (are_wide (width_of p.nodes c.args.node) c.replace.result)) (sym c.requires.routing) wide))
