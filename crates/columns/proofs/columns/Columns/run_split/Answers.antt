use Rattle.std.proofs.Common.{◌≡◌, ◌≤◌, sym, ◌∙◌, ap, subst, true, false, length, arith}
use Rattle.std.specs.List.{AllWithin}
use Rattle.std.specs.List.Sorted.{IsStrictlySortedBy}
use Rattle.columns.specs.Keys.{by_row_then_time, is_row_left_behind, is_left_behind}
use Rattle.columns.specs.Runs.{row_starts, run_place}
use Rattle.columns.proofs.SearchLemmas.{rows_parted, runs_before, runs_rest, place_first}
use Rattle.columns.proofs.columns.Columns.run_split.Goals as goal

pub first_kept-requires-clause-parted : goal.first_kept-requires-clause-parted
first_kept-requires-clause-parted g c =
    rows_parted c.self.inside.starts.items c.self.inside.rows c.self.inside.times.items c.self.inside.diffs.items c.self.invariant g.T.Ord.cmp c.args.key.now c.args.through (subst (λ us. IsStrictlySortedBy (by_row_then_time g.T.Ord.cmp) us) (sym c.self.view_is) c.requires)

pub returns-clause-within : goal.returns-clause-within
returns-clause-within g c =
    let many = ap length (c.self.invariant.starts_are ∙ ap row_starts c.self.view_is) in
    let rows_long = c.self.invariant.rows_long in
    let inside = c.first_kept.ensures.within in
    let rows = c.len.ensures in
    omega (arith, many, rows_long, rows, inside)

pub returns-clause-parted : goal.returns-clause-parted
returns-clause-parted g c =
    let us = c.args.self.now in
    let key = c.args.key.now in
    let through = c.args.through in
    let run = c.first_kept.result in
    let rows = c.len.ensures in
    let inside = c.first_kept.ensures.within in
    let last : run ≤ length c.self.inside.rows = omega (arith, rows, inside) in
    let first = place_first c.self.inside.starts.items c.self.inside.rows c.self.inside.times.items c.self.inside.diffs.items c.self.invariant us c.self.view_is in
    let rest = subst (λ n. AllWithin (λ row. is_row_left_behind key through row ≡ false) c.self.inside.rows run n) rows c.first_kept.ensures.rest in (
      subst (λ n. AllWithin (λ u. is_left_behind key through u ≡ true) us n (run_place us run)) first (runs_before c.self.inside.starts.items c.self.inside.rows c.self.inside.times.items c.self.inside.diffs.items c.self.invariant key through run last us c.self.view_is 0 c.first_kept.ensures.before),
      runs_rest c.self.inside.starts.items c.self.inside.rows c.self.inside.times.items c.self.inside.diffs.items c.self.invariant key through run last us c.self.view_is rest,
    )
