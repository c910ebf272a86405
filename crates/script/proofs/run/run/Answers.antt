use Rattle.std.proofs.Common.{ℕ, List, [], ◌++◌, subst}
use Rattle.std.proofs.lemmas.Result.{err_from_is_err_and}
use Rattle.output.specs.Outs.{Wrote}
use Rattle.script.specs.Text.{lines_text}
use Rattle.output.proofs.OutLemmas.{wrote_all, broke_last}
use Rattle.script.proofs.run.run.Goals as goal

pub returns-clause-wrote : goal.returns-clause-wrote
returns-clause-wrote g c s h =
    let t = c.args.script.now in
    wrote_all g.W.Out.took g.met.W.Out.in_turn c.args.out.now c.run_lines.new.out c.flush.new.out [] (lines_text t s t.commands) c.run_lines.new.buffer
    (subst (λ (waiting : List ℕ). Wrote g.W.Out.took c.args.out.now waiting (lines_text t s t.commands) c.run_lines.new.out c.run_lines.new.buffer) c.new-buffer.ensures (c.in_ok-run_lines.ensures.wrote s h)) c.in_ok-flush.ensures.all

pub returns-in_err-run_lines-clause-overflow : goal.returns-in_err-run_lines-clause-overflow
returns-in_err-run_lines-clause-overflow g c s h =
    let p = err_from_is_err_and c.from_residual.result c.from_residual.ensures.1 in
    rw (p.1, p.2)
    (λ ten.
    let met = c.in_err-run_lines.ensures.overflow s h ten in
    (met.0, met.1, subst (λ (waiting : List ℕ). g.W.Out.took c.args.out.now (waiting ++ met.0) 0 c.run_lines.new.out) c.new-buffer.ensures met.2))

pub returns-in_err-flush-clause-broke : goal.returns-in_err-flush-clause-broke
returns-in_err-flush-clause-broke g c s h =
    let t = c.args.script.now in
    let p = err_from_is_err_and c.from_residual-in_err-flush.result c.from_residual-in_err-flush.ensures.1 in
    rw (p.1, p.2)
    (broke_last g.W.Out.took g.met.W.Out.in_turn c.args.out.now c.run_lines.new.out c.flush.new.out (lines_text t s t.commands) c.run_lines.new.buffer
    (subst (λ (waiting : List ℕ). Wrote g.W.Out.took c.args.out.now waiting (lines_text t s t.commands) c.run_lines.new.out c.run_lines.new.buffer) c.new-buffer.ensures (c.in_ok-run_lines.ensures.wrote s h)) c.in_err-flush.ensures.beginning)
