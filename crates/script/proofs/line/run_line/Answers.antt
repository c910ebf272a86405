use Rattle.std.proofs.Common.{[], sym, subst, ◌∙◌, ◌++◌}
use Rattle.std.proofs.lemmas.List.{append-nil}
use Rattle.std.proofs.lemmas.Result.{err_from_is_err_and}
use Rattle.grammar.specs.declared.command.Command.{Command}
use Rattle.output.specs.Outs.{Wrote}
use Rattle.script.specs.Text.{after_command, piece}
use Rattle.output.proofs.OutLemmas.{broke_before, wrote_more, broke_more}
use Rattle.script.proofs.line.run_line.Goals as goal

pub returns-in_err-run_update-in-Input-clause-broke : goal.returns-in_err-run_update-in-Input-clause-broke
returns-in_err-run_update-in-Input-clause-broke g c s h =
    let line = c.args.line.now in
    let p = err_from_is_err_and c.from_residual.result c.from_residual.ensures.1 in
    rw (p.1, p.2) (broke_before g.W.Out.took c.args.out.now c.run_update.new.out c.args.buffer.now [] (piece c.args.script.now s line.line line.command) _ c.in_err-run_update-in-Input.ensures.broke)

-- the text of the line was the only text still to be written
pub returns-in_err-pass_on-in-Input-clause-broke : goal.returns-in_err-pass_on-in-Input-clause-broke
returns-in_err-pass_on-in-Input-clause-broke g c s h =
    let t = c.args.script.now in
    let line = c.args.line.now in
    let text = piece t s line.line line.command in
    let p = err_from_is_err_and c.from_residual-in_err-pass_on-in-Input.result c.from_residual-in_err-pass_on-in-Input.ensures.1 in
    rw (p.1, p.2)
    (broke_more g.W.Out.took g.met.W.Out.in_turn c.args.out.now c.run_update.new.out c.pass_on.new.out c.args.buffer.now text c.run_update.new.buffer [] [] text _
    (append-nil (text ++ []) ∙ append-nil text)
    (subst (λ (command : Command). Wrote g.W.Out.took c.args.out.now c.args.buffer.now (piece t s line.line command) c.run_update.new.out c.run_update.new.buffer)
    (sym c.in-Input.is) (c.in_ok-run_update-in-Input.ensures.ran t s c.requires.plan h).1)
    c.in_err-pass_on-in-Input.ensures.broke)

pub returns-in_ok-pass_on-in-Input-clause-ran : goal.returns-in_ok-pass_on-in-Input-clause-ran
returns-in_ok-pass_on-in-Input-clause-ran g c s h =
    let t = c.args.script.now in
    let line = c.args.line.now in
    let text = piece t s line.line line.command in
    let ran = c.in_ok-run_update-in-Input.ensures.ran t s c.requires.plan h in (
      subst (λ (command : Command). g.E.Engine.stands c.run_update.new.engine (after_command t.plan s command)) (sym c.in-Input.is) ran.0,
      wrote_more g.W.Out.took g.met.W.Out.in_turn c.args.out.now c.run_update.new.out c.pass_on.new.out c.args.buffer.now text c.run_update.new.buffer [] c.pass_on.new.self text (append-nil text)
          (subst (λ (command : Command). Wrote g.W.Out.took c.args.out.now c.args.buffer.now (piece t s line.line command) c.run_update.new.out c.run_update.new.buffer) (sym c.in-Input.is) ran.1)
          c.in_ok-pass_on-in-Input.ensures.wrote,
    )

pub returns-in_err-run_allow-in-Allow-clause-broke : goal.returns-in_err-run_allow-in-Allow-clause-broke
returns-in_err-run_allow-in-Allow-clause-broke g c s h =
    let line = c.args.line.now in
    let p = err_from_is_err_and c.from_residual-in_err-run_allow-in-Allow.result c.from_residual-in_err-run_allow-in-Allow.ensures.1 in
    rw (p.1, p.2) (broke_before g.W.Out.took c.args.out.now c.run_allow.new.out c.args.buffer.now [] (piece c.args.script.now s line.line line.command) _ c.in_err-run_allow-in-Allow.ensures.broke)

-- the text of the line was the only text still to be written
pub returns-in_err-pass_on-in-Allow-clause-broke : goal.returns-in_err-pass_on-in-Allow-clause-broke
returns-in_err-pass_on-in-Allow-clause-broke g c s h =
    let t = c.args.script.now in
    let line = c.args.line.now in
    let text = piece t s line.line line.command in
    let p = err_from_is_err_and c.from_residual-in_err-pass_on-in-Allow.result c.from_residual-in_err-pass_on-in-Allow.ensures.1 in
    rw (p.1, p.2)
    (broke_more g.W.Out.took g.met.W.Out.in_turn c.args.out.now c.run_allow.new.out c.pass_on-in-Allow.new.out c.args.buffer.now text c.run_allow.new.buffer [] [] text _
    (append-nil (text ++ []) ∙ append-nil text)
    (subst (λ (command : Command). Wrote g.W.Out.took c.args.out.now c.args.buffer.now (piece t s line.line command) c.run_allow.new.out c.run_allow.new.buffer)
    (sym c.in-Allow.is) (c.in_ok-run_allow-in-Allow.ensures.ran t s c.requires.plan h).1)
    c.in_err-pass_on-in-Allow.ensures.broke)

pub returns-in_ok-pass_on-in-Allow-clause-ran : goal.returns-in_ok-pass_on-in-Allow-clause-ran
returns-in_ok-pass_on-in-Allow-clause-ran g c s h =
    let t = c.args.script.now in
    let line = c.args.line.now in
    let text = piece t s line.line line.command in
    let ran = c.in_ok-run_allow-in-Allow.ensures.ran t s c.requires.plan h in (
      subst (λ (command : Command). g.E.Engine.stands c.run_allow.new.engine (after_command t.plan s command)) (sym c.in-Allow.is) ran.0,
      wrote_more g.W.Out.took g.met.W.Out.in_turn c.args.out.now c.run_allow.new.out c.pass_on-in-Allow.new.out c.args.buffer.now text c.run_allow.new.buffer [] c.pass_on-in-Allow.new.self text (append-nil text)
          (subst (λ (command : Command). Wrote g.W.Out.took c.args.out.now c.args.buffer.now (piece t s line.line command) c.run_allow.new.out c.run_allow.new.buffer) (sym c.in-Allow.is) ran.1)
          c.in_ok-pass_on-in-Allow.ensures.wrote,
    )
