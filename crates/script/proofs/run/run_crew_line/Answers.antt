use Rattle.script.specs.Text.{piece}
use Rattle.script.proofs.BreakLemmas.{breaks_before}
use Rattle.script.proofs.run.run_crew_line.Goals as goal

pub returns-in-Err-clause-broke : goal.returns-in-Err-clause-broke
returns-in-Err-clause-broke g c s h =
    breaks_before g.W.Out.took c.args.out.now c.end_run.new.out c.args.buffer.now (piece c.args.script.now s c.args.line.now.line c.args.line.now.command) c.end_run.result c.end_run.ensures.broke
