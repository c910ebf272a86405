use Rattle.std.proofs.Common.{◌≡◌, take}
use Rattle.engines.specs.Bitemporal.{BitemporalSession}
use Rattle.script.specs.Text.{after_lines}
use Rattle.script.proofs.reads.follow_all.Given as goal

-- the engine stands for the session after the lines so far
abbrev pub invariant-loop-line : goal.invariant-loop-line
invariant-loop-line g l = record {
  plan : l.script.plan ≡ g.E.Engine.plan l.engine;
  same : g.E.Engine.plan l.engine ≡ g.E.Engine.plan l.fn.engine;
  stands : (s : BitemporalSession) → g.E.Engine.stands l.fn.engine s → g.E.Engine.stands l.engine (after_lines l.script.plan s (take l.line-index l.script.commands));
}
