use Rattle.std.proofs.Common.{[], refl}
use Rattle.std.proofs.lemmas.Result.{err_from_is_err_and}
use Rattle.bitview.specs.Actions.{check_text}
use Rattle.bitview.proofs.actions.write_size.Goals as goal

pub returns-in_err-line-clause-beginning : goal.returns-in_err-line-clause-beginning
returns-in_err-line-clause-beginning g c =
    let p = err_from_is_err_and c.from_residual.result c.from_residual.ensures.1 in
    rw (p.1, p.2) ([], (check_text c.args.script.now, refl), g.met.W.Out.at_once c.args.out.now)
