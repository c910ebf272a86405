use Rattle.std.proofs.Common.{sym, ◌∙◌}
use Rattle.progress.proofs.ScopeLemmas.{unreached}
use Rattle.progress.proofs.scope.is_reached.Goals as goal

pub returns-clause-unreached : goal.returns-clause-unreached
returns-clause-unreached c h scope e =
    unreached c.args.graph.now c.known.ensures c.args.node c.args.place.now (sym c.is_upstream.ensures ∙ h) scope e
