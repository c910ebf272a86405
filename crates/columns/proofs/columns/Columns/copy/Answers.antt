use Rattle.std.proofs.Common.{◌≡◌, ◌<◌, ◌∙◌, sym, ap, length, get_or, pos, [], FitsSigned, w64, rules, arith}
use Rattle.std.proofs.lemmas.Int.{to_z-of_z}
use Rattle.std.proofs.lemmas.List.{get_or_read}
use Rattle.columns.specs.Runs.{run_number, row_starts}
use Rattle.columns.proofs.ColumnsLemmas.{place_inside, some_start}
use Rattle.columns.proofs.RunLemmas.{run_number_within}
use Rattle.columns.proofs.TruncateLemmas.{some_whole}
use Rattle.columns.proofs.columns.Columns.copy.Goals as goal

pub index-requires : goal.index-requires
index-requires g c =
    let inside = place_inside c.self.inside.starts.items c.self.inside.rows c.self.inside.times.items c.self.inside.diffs.items c.self.invariant c.args.self.now c.self.view_is c.args.i c.requires.place in
    search (rules, inside)

pub row-requires : goal.row-requires
row-requires g c =
    let starts = c.self.inside.starts.items in
    let inside = place_inside starts c.self.inside.rows c.self.inside.times.items c.self.inside.diffs.items c.self.invariant c.args.self.now c.self.view_is c.args.i c.requires.place in
    let some = some_start starts c.self.inside.rows c.self.inside.times.items c.self.inside.diffs.items c.self.invariant (omega (arith, inside)) in
    let number : c.args.run ≡ run_number starts c.args.i = c.requires.run ∙ ap (λ ss. run_number ss c.args.i) (sym (c.self.invariant.starts_are ∙ ap row_starts c.self.view_is)) in
    let within = run_number_within starts c.args.i some in
    let many = c.self.invariant.rows_long in
    omega (arith, within, number, many)

pub index-requires-2 : goal.index-requires-2
index-requires-2 g c =
    let inside = place_inside c.self.inside.starts.items c.self.inside.rows c.self.inside.times.items c.self.inside.diffs.items c.self.invariant c.args.self.now c.self.view_is c.args.i c.requires.place in
    let long = c.self.invariant.diffs_long in
    let within : c.args.i < length c.self.inside.diffs.items = omega (arith, inside, long) in
    search (rules, within)

pub returns : goal.returns
returns g c =
    let starts = c.self.inside.starts.items in
    let inside = place_inside starts c.self.inside.rows c.self.inside.times.items c.self.inside.diffs.items c.self.invariant c.args.self.now c.self.view_is c.args.i c.requires.place in
    let long = c.self.invariant.diffs_long in
    let within : c.args.i < length c.self.inside.diffs.items = omega (arith, inside, long) in
    let fits : FitsSigned w64 c.index-2.result.now = search rules in
    let number : c.args.run ≡ run_number starts c.args.i = c.requires.run ∙ ap (λ ss. run_number ss c.args.i) (sym (c.self.invariant.starts_are ∙ ap row_starts c.self.view_is)) in
    some_whole starts c.self.inside.rows c.self.inside.times.items c.self.inside.diffs.items c.self.invariant c.args.self.now c.self.view_is c.args.i c.requires.place _ _ _
    c.index.ensures
    (c.row.ensures ∙ ap (λ n. get_or c.self.inside.rows n []) number)
    (to_z-of_z w64 c.index-2.result.now fits ∙ get_or_read c.self.inside.diffs.items c.args.i c.index-2.result.now within c.index-2.ensures (pos 0))
