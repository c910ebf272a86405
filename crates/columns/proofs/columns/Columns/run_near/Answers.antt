use Rattle.std.proofs.Common.{◌<◌, sym, ◌∙◌, ap, subst}
use Rattle.std.specs.List.{AllPairs}
use Rattle.columns.specs.Runs.{run_number, row_starts}
use Rattle.columns.proofs.ColumnsLemmas.{starts_up}
use Rattle.columns.proofs.columns.Columns.run_near.Goals as goal

pub run_near-requires-clause-ascending : goal.run_near-requires-clause-ascending
run_near-requires-clause-ascending g c =
    subst (λ ss. AllPairs (λ s t. s < t) ss) (sym c.as_slice.ensures.value) (starts_up c.self.inside.starts.items c.self.inside.rows c.self.inside.times.items c.self.inside.diffs.items c.self.invariant)

pub returns : goal.returns
returns g c =
    c.run_near.ensures.number
    ∙ ap (λ ss. run_number ss c.args.i) (c.as_slice.ensures.value ∙ c.self.invariant.starts_are ∙ ap row_starts c.self.view_is)
