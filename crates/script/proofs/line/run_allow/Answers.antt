use Rattle.grammar.specs.declared.command.Command.TheVariants.{Allow}
use Rattle.script.proofs.EndLemmas.{told_ends}
use Rattle.script.proofs.line.run_allow.Goals as goal

pub returns-in-Err-clause-known : goal.returns-in-Err-clause-known
returns-in-Err-clause-known g c s h = told_ends (g.E.Engine.plan c.args.engine.now) s (Allow c.args.view c.args.times.now) c.in-Err.refusal c.refuse.result (c.in-Err.ensures.answered s h) c.refuse.ensures.known
