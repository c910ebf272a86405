use Rattle.std.proofs.Common.{◌≡◌, take}
use Rattle.output.specs.Outs.{Wrote}
use Rattle.engines.specs.Bitemporal.{BitemporalSession}
use Rattle.script.specs.Text.{after_lines, lines_text}
use Rattle.script.proofs.run.run_lines.Given as goal

-- the engine stands for the session after the lines so far, and the text of these lines is written
abbrev pub invariant-loop-line : goal.invariant-loop-line
invariant-loop-line g l = record {
  plan : l.script.plan ≡ g.E.Engine.plan l.engine;
  stands : (s : BitemporalSession) → g.E.Engine.stands l.fn.engine s → g.E.Engine.stands l.engine (after_lines l.script.plan s (take l.line-index l.script.commands));
  wrote : (s : BitemporalSession) → g.E.Engine.stands l.fn.engine s → Wrote g.W.Out.took l.fn.out l.fn.buffer (lines_text l.script s (take l.line-index l.script.commands)) l.out l.buffer;
}
