use Rattle.std.proofs.Common.{◌<◌, ◌∙◌, ap, length, arith}
use Rattle.columns.specs.Runs.{row_starts}
use Rattle.columns.proofs.SearchLemmas.{run_alike}
use Rattle.columns.proofs.columns.Columns.run_row.Goals as goal

pub row-requires : goal.row-requires
row-requires g c =
    let many = ap length (c.self.invariant.starts_are ∙ ap row_starts c.self.view_is) in
    let rows_long = c.self.invariant.rows_long in
    let inside = c.requires in
    omega (arith, many, rows_long, inside)

pub returns : goal.returns
returns g c =
    let many = ap length (c.self.invariant.starts_are ∙ ap row_starts c.self.view_is) in
    let inside = c.requires in
    let here : c.args.run < length c.self.inside.starts.items = omega (arith, many, inside) in
    run_alike c.self.inside.starts.items c.self.inside.rows c.self.inside.times.items c.self.inside.diffs.items c.self.invariant c.args.self.now c.self.view_is c.args.run here c.row.result c.row.ensures
