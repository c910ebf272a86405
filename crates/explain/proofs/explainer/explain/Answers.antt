use Rattle.std.proofs.lemmas.Result.{err_from_is_err_and}
use Rattle.explain.specs.Explanations.{counts_text}
use Rattle.explain.proofs.SomeTextLemmas.{took_behind, wrote_all}
use Rattle.explain.proofs.explainer.explain.Goals as goal

pub returns-in_err-finish-clause-broke : goal.returns-in_err-finish-clause-broke
returns-in_err-finish-clause-broke g c =
    let p = err_from_is_err_and c.from_residual-in_err-finish.result c.from_residual-in_err-finish.ensures.1 in
    let w = c.in_ok-found.ensures.wrote in
    rw (p.1, p.2)
    (took_behind g.W.Out.took g.met.W.Out.in_turn c.args.out.now c.tell.new.out c.finish.new.out c.new-buffer.result c.tell.new.buffer _ (w.0, w.2) c.in_err-finish.ensures.broke)

pub returns-clause-wrote : goal.returns-clause-wrote
returns-clause-wrote g c =
    let w = c.in_ok-found.ensures.wrote in
    (w.0, w.1, wrote_all g.W.Out.took g.met.W.Out.in_turn c.args.out.now c.tell.new.out c.finish.new.out c.new-buffer.result w.0 c.tell.new.buffer (counts_text c.in_ok-found.found.faults c.in_ok-found.found.warnings) c.new-buffer.ensures w.2 c.in_ok-finish.ensures.wrote)
