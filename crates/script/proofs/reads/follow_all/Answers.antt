use Rattle.std.proofs.Common.{◌≡◌, ◌<◌, ◌∙◌, List, length, get_or, take, sym, subst}
use Rattle.plan.specs.declared.node.Node.{Node}
use Rattle.grammar.specs.declared.command.CommandLine.{CommandLine}
use Rattle.engines.specs.Bitemporal.{BitemporalSession}
use Rattle.script.specs.Text.{after_command, after_lines}
use Rattle.script.proofs.TextLemmas.{after_more}
use Rattle.script.proofs.reads.follow_all.Goals as goal

pub loop-line-preserved : goal.loop-line-preserved
loop-line-preserved g c =
    let t = c.args.script.now in
    let i = c.loop-line.line-index in
    let line = c.line-item.result in
    let same = c.command_lines-line-items.ensures.lines in
    let within : i < length t.commands = subst (λ (lines : List CommandLine). i < length lines) same c.loop-line-test.true in
    let is : line ≡ get_or t.commands i line = subst (λ (lines : List CommandLine). line ≡ get_or lines i line) same c.line-item.is in
    let before = λ (s : BitemporalSession). after_lines t.plan s (take i t.commands) in
    record {
      plan = c.loop-line.invariant.plan ∙ sym c.follow.ensures.plan;
      same = c.follow.ensures.plan ∙ c.loop-line.invariant.same;
      stands = λ s h.
          subst (g.E.Engine.stands c.follow.new.engine) (after_more t.commands i line within is t.plan s)
          (subst (λ (p : List Node). g.E.Engine.stands c.follow.new.engine (after_command p (before s) line.command)) (sym c.loop-line.invariant.plan)
          (c.in_ok-follow.ensures.stands (before s) (c.loop-line.invariant.stands s h)));
    }
