use Rattle.std.proofs.Common.{sym, subst}
use Rattle.columns.specs.Runs.{AreRuns}
use Rattle.columns.proofs.ColumnsLemmas.{are_runs}
use Rattle.columns.proofs.columns.Columns.starts.Goals as goal

pub returns-clause-runs : goal.returns-clause-runs
returns-clause-runs g c =
    subst (λ ss. AreRuns ss c.args.self.now) (sym c.as_slice.ensures.value)
    (subst (λ us. AreRuns c.self.inside.starts.items us) c.self.view_is (are_runs c.self.inside.starts.items c.self.inside.rows c.self.inside.times.items c.self.inside.diffs.items c.self.invariant))
