use Rattle.std.proofs.Common.{◌≡◌, ◌<◌, sym, ◌∙◌, ap, subst, get_or, []}
use Rattle.std.specs.List.{AllPairs}
use Rattle.update.specs.Bags.{same_row}
use Rattle.columns.specs.Runs.{run_number}
use Rattle.columns.proofs.ColumnsLemmas.{starts_up, some_row}
use Rattle.columns.proofs.columns.Columns.has_row.Goals as goal

pub run_near-requires-clause-ascending : goal.run_near-requires-clause-ascending
run_near-requires-clause-ascending g c =
    subst (λ ss. AllPairs (λ s t. s < t) ss) (sym c.as_slice.ensures.value) (starts_up c.self.inside.starts.items c.self.inside.rows c.self.inside.times.items c.self.inside.diffs.items c.self.invariant)

pub returns : goal.returns
returns g c =
    let given = c.args.row.now in
    let number = c.run_near.ensures.number ∙ ap (λ ss. run_number ss c.args.i) c.as_slice.ensures.value in
    some_row c.self.inside.starts.items c.self.inside.rows c.self.inside.times.items c.self.inside.diffs.items c.self.invariant c.args.self.now c.self.view_is c.args.i c.requires (λ row. c.is_row.result ≡ same_row row given)
    (c.is_row.ensures ∙ ap (λ n. same_row (get_or c.self.inside.rows n []) given) number)
