use Rattle.std.proofs.Common.{sym, ◌∙◌, ap, subst, length, arith}
use Rattle.std.specs.List.Sorted.{IsStrictlySortedBy}
use Rattle.columns.specs.Keys.{by_row_then_time}
use Rattle.columns.specs.Runs.{row_starts}
use Rattle.columns.proofs.PlaceLemmas.{run_place_up}
use Rattle.columns.proofs.SearchLemmas.{rows_parted, runs_before, runs_rest}
use Rattle.columns.proofs.columns.Columns.run_kept.Goals as goal

pub gallop-requires-clause-parted : goal.gallop-requires-clause-parted
gallop-requires-clause-parted g c =
    rows_parted c.self.inside.starts.items c.self.inside.rows c.self.inside.times.items c.self.inside.diffs.items c.self.invariant g.T.Ord.cmp c.args.key.now c.args.through (subst (λ us. IsStrictlySortedBy (by_row_then_time g.T.Ord.cmp) us) (sym c.self.view_is) c.requires.sorted)

pub gallop-requires-clause-within : goal.gallop-requires-clause-within
gallop-requires-clause-within g c =
    let many = ap length (c.self.invariant.starts_are ∙ ap row_starts c.self.view_is) in
    let rows_long = c.self.invariant.rows_long in
    let inside = c.requires.within in
    omega (arith, many, rows_long, inside)

pub returns-clause-within : goal.returns-clause-within
returns-clause-within g c =
    let many = ap length (c.self.invariant.starts_are ∙ ap row_starts c.self.view_is) in
    let rows_long = c.self.invariant.rows_long in
    let inside = c.gallop.ensures.within in
    omega (arith, many, rows_long, inside)

pub returns-clause-onward : goal.returns-clause-onward
returns-clause-onward g c = run_place_up c.args.self.now c.args.from c.gallop.result c.gallop.ensures.ordered

pub returns-clause-before : goal.returns-clause-before
returns-clause-before g c =
    runs_before c.self.inside.starts.items c.self.inside.rows c.self.inside.times.items c.self.inside.diffs.items c.self.invariant c.args.key.now c.args.through c.gallop.result c.gallop.ensures.within c.args.self.now c.self.view_is c.args.from c.gallop.ensures.before

pub returns-clause-rest : goal.returns-clause-rest
returns-clause-rest g c =
    runs_rest c.self.inside.starts.items c.self.inside.rows c.self.inside.times.items c.self.inside.diffs.items c.self.invariant c.args.key.now c.args.through c.gallop.result c.gallop.ensures.within c.args.self.now c.self.view_is c.gallop.ensures.rest
