use Rattle.std.proofs.Common.{◌≡◌, ◌<◌, sym, ◌∙◌, ap, subst, get_or, []}
use Rattle.std.specs.List.{AllPairs}
use Rattle.columns.specs.Runs.{run_number}
use Rattle.columns.proofs.ColumnsLemmas.{starts_up, some_row}
use Rattle.columns.proofs.columns.Columns.row_near.Goals as goal

pub run_near-requires-clause-ascending : goal.run_near-requires-clause-ascending
run_near-requires-clause-ascending g c =
    subst (λ ss. AllPairs (λ s t. s < t) ss) (sym c.as_slice.ensures.value) (starts_up c.self.inside.starts.items c.self.inside.rows c.self.inside.times.items c.self.inside.diffs.items c.self.invariant)

pub returns : goal.returns
returns g c =
    let number = c.run_near.ensures.number ∙ ap (λ ss. run_number ss c.args.i) c.as_slice.ensures.value in
    some_row c.self.inside.starts.items c.self.inside.rows c.self.inside.times.items c.self.inside.diffs.items c.self.invariant c.args.self.now c.self.view_is c.args.i c.requires (λ row. c.row.result ≡ row)
    (c.row.ensures ∙ ap (λ n. get_or c.self.inside.rows n []) number)
