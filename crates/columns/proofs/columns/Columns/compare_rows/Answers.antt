use Rattle.std.proofs.Common.{◌≡◌, ◌<◌, sym, ◌∙◌, ap, subst, get_or, slice_get, IsSomeAnd, []}
use Rattle.std.specs.List.{AllPairs}
use Rattle.std.specs.Cmp.Lexicographic.{slice_cmp}
use Rattle.std.specs.Ordering.{int_cmp}
use Rattle.columns.specs.Runs.{run_number}
use Rattle.columns.proofs.ColumnsLemmas.{starts_up, some_row}
use Rattle.columns.proofs.columns.Columns.compare_rows.Goals as goal

pub run_near-run-requires-clause-ascending : goal.run_near-run-requires-clause-ascending
run_near-run-requires-clause-ascending g c =
    subst (λ ss. AllPairs (λ s t. s < t) ss) (sym c.as_slice.ensures.value) (starts_up c.self.inside.starts.items c.self.inside.rows c.self.inside.times.items c.self.inside.diffs.items c.self.invariant)

pub run_near-other_run-requires-clause-ascending : goal.run_near-other_run-requires-clause-ascending
run_near-other_run-requires-clause-ascending g c =
    subst (λ ss. AllPairs (λ s t. s < t) ss) (sym c.as_slice-2.ensures.value) (starts_up c.other.inside.starts.items c.other.inside.rows c.other.inside.times.items c.other.inside.diffs.items c.other.invariant)

pub returns : goal.returns
returns g c =
    let number = c.run_near-run.ensures.number ∙ ap (λ ss. run_number ss c.args.i) c.as_slice.ensures.value in
    let other_number = c.run_near-other_run.ensures.number ∙ ap (λ ss. run_number ss c.args.j) c.as_slice-2.ensures.value in
    some_row c.self.inside.starts.items c.self.inside.rows c.self.inside.times.items c.self.inside.diffs.items c.self.invariant c.args.self.now c.self.view_is c.args.i c.requires.place (λ row. IsSomeAnd (slice_get c.args.other.now c.args.j) (λ v. c.compare.result ≡ slice_cmp int_cmp row v.row))
    (some_row c.other.inside.starts.items c.other.inside.rows c.other.inside.times.items c.other.inside.diffs.items c.other.invariant c.args.other.now c.other.view_is c.args.j c.requires.other (λ other. c.compare.result ≡ slice_cmp int_cmp (get_or c.self.inside.rows (run_number c.self.inside.starts.items c.args.i) []) other)
    (c.compare.ensures ∙ (λ k. slice_cmp int_cmp (get_or c.self.inside.rows (number k) []) (get_or c.other.inside.rows (other_number k) []))))
