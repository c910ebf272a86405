use Rattle.std.proofs.Common.{◌≡◌, ◌++◌, ◌∙◌, sym, ap, length, get_or, [], arith}
use Rattle.columns.specs.Runs.{run_number, row_starts}
use Rattle.columns.proofs.ColumnsLemmas.{place_inside, some_start, some_row}
use Rattle.columns.proofs.RunLemmas.{run_number_within}
use Rattle.columns.proofs.columns.Columns.append_row.Goals as goal

pub append_row-requires : goal.append_row-requires
append_row-requires g c =
    let starts = c.self.inside.starts.items in
    let inside = place_inside starts c.self.inside.rows c.self.inside.times.items c.self.inside.diffs.items c.self.invariant c.args.self.now c.self.view_is c.args.i c.requires.place in
    let some = some_start starts c.self.inside.rows c.self.inside.times.items c.self.inside.diffs.items c.self.invariant (omega (arith, inside)) in
    let number : c.args.run ≡ run_number starts c.args.i = c.requires.run ∙ ap (λ ss. run_number ss c.args.i) (sym (c.self.invariant.starts_are ∙ ap row_starts c.self.view_is)) in
    let within = run_number_within starts c.args.i some in
    let many = c.self.invariant.rows_long in
    omega (arith, within, number, many)

pub returns-in-Ok-clause-more : goal.returns-in-Ok-clause-more
returns-in-Ok-clause-more g c =
    let number : c.args.run ≡ run_number c.self.inside.starts.items c.args.i = c.requires.run ∙ ap (λ ss. run_number ss c.args.i) (sym (c.self.invariant.starts_are ∙ ap row_starts c.self.view_is)) in
    some_row c.self.inside.starts.items c.self.inside.rows c.self.inside.times.items c.self.inside.diffs.items c.self.invariant c.args.self.now c.self.view_is c.args.i c.requires.place (λ row. c.append_row.new.list.items ≡ c.args.list.now.items ++ row)
    (c.in-Ok.ensures.more ∙ ap (λ n. c.args.list.now.items ++ get_or c.self.inside.rows n []) number)

pub returns-in-Ok-clause-width : goal.returns-in-Ok-clause-width
returns-in-Ok-clause-width g c =
    let number : c.args.run ≡ run_number c.self.inside.starts.items c.args.i = c.requires.run ∙ ap (λ ss. run_number ss c.args.i) (sym (c.self.invariant.starts_are ∙ ap row_starts c.self.view_is)) in
    some_row c.self.inside.starts.items c.self.inside.rows c.self.inside.times.items c.self.inside.diffs.items c.self.invariant c.args.self.now c.self.view_is c.args.i c.requires.place (λ row. c.in-Ok.width ≡ length row)
    (c.in-Ok.ensures.width ∙ ap (λ n. length (get_or c.self.inside.rows n [])) number)
