use Rattle.std.proofs.Common.{List, sym, subst}
use Rattle.plan.specs.declared.node.Node.{Node}
use Rattle.grammar.specs.declared.command.Command.TheVariants.{View}
use Rattle.grammar.specs.declared.command.ViewCommand.TheVariants.{Read, Changes, Frontier}
use Rattle.script.specs.Text.{piece}
use Rattle.script.proofs.EndLemmas.{ends_weaker, own_end}
use Rattle.script.proofs.BreakLemmas.{breaks_before}
use Rattle.script.proofs.line.run_query.Goals as goal

pub returns-in-Err-clause-known : goal.returns-in-Err-clause-known
returns-in-Err-clause-known g c s h =
    let p = g.E.Engine.plan c.args.engine.now in
    ends_weaker
    (λ met e. subst (λ (q : List Node). g.E.Engine.ends q s met) (sym c.requires.plan)
    (subst (g.E.Engine.ends p s) (sym e.0) (own_end p s (View (Read c.in-Read.view c.in-Read.time)) c.in-Err.refusal (c.in-Err.ensures.answered s h) e.1)))
    c.refuse.result c.refuse.ensures.known

pub returns-in-Err-changes-clause-known : goal.returns-in-Err-changes-clause-known
returns-in-Err-changes-clause-known g c s h =
    let p = g.E.Engine.plan c.args.engine.now in
    ends_weaker
    (λ met e. subst (λ (q : List Node). g.E.Engine.ends q s met) (sym c.requires.plan)
    (subst (g.E.Engine.ends p s) (sym e.0) (own_end p s (View (Changes c.in-Changes.view)) c.in-Err-changes.refusal (c.in-Err-changes.ensures.answered s h) e.1)))
    c.refuse-in-Err-changes.result c.refuse-in-Err-changes.ensures.known

pub returns-in-Err-frontier-clause-known : goal.returns-in-Err-frontier-clause-known
returns-in-Err-frontier-clause-known g c s h =
    let p = g.E.Engine.plan c.args.engine.now in
    ends_weaker
    (λ met e. subst (λ (q : List Node). g.E.Engine.ends q s met) (sym c.requires.plan)
    (subst (g.E.Engine.ends p s) (sym e.0) (own_end p s (View (Frontier c.in-Frontier.view)) c.in-Err-frontier.refusal (c.in-Err-frontier.ensures.answered s h) e.1)))
    c.refuse-in-Err-frontier.result c.refuse-in-Err-frontier.ensures.known

pub returns-in-Err-clause-broke : goal.returns-in-Err-clause-broke
returns-in-Err-clause-broke g c s h =
    breaks_before g.W.Out.took c.args.out.now c.refuse.new.out c.args.buffer.now (piece c.args.script.now s c.args.line (View c.args.command.now)) c.refuse.result c.refuse.ensures.broke

pub returns-in-Err-changes-clause-broke : goal.returns-in-Err-changes-clause-broke
returns-in-Err-changes-clause-broke g c s h =
    breaks_before g.W.Out.took c.args.out.now c.refuse-in-Err-changes.new.out c.args.buffer.now (piece c.args.script.now s c.args.line (View c.args.command.now)) c.refuse-in-Err-changes.result c.refuse-in-Err-changes.ensures.broke

pub returns-in-Err-frontier-clause-broke : goal.returns-in-Err-frontier-clause-broke
returns-in-Err-frontier-clause-broke g c s h =
    breaks_before g.W.Out.took c.args.out.now c.refuse-in-Err-frontier.new.out c.args.buffer.now (piece c.args.script.now s c.args.line (View c.args.command.now)) c.refuse-in-Err-frontier.result c.refuse-in-Err-frontier.ensures.broke
